-- src/climb.rt, climb: WentUp (view t.now).k.parent p.0 steps way.old result way.new
use Rattle.searching.proofs.climb.+climb.Given as goal

-- proposed from what the function passes where it calls itself
abbrev pub decreases-climb : goal.decreases-climb
decreases-climb l = l.steps
