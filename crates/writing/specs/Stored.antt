-- The area from one line to another.
use Rattle.words.specs.declared.Line.{Line}
use Rattle.tables.specs.State.{Area}

-- ── a header ──
-- the area from line a to line b
abbrev pub span : Line → Line → Area
span a b = record { lo = a.0; hi = b.0 }
