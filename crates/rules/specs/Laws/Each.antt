-- What holds of each service's answer holds of a call's: a theorem over all services is a record with a field for each, and this is the one proof that goes through them.
use Rattle.std.specs.Prelude.{◌≡◌, Bool, cond, not, ◌&&◌, ◌||◌, ℕ, eqb}
use Rattle.std.proofs.Math.Path.{refl}
use Rattle.std.proofs.Common.{ap, eqb-true}
use Rattle.std.proofs.Math.Bool.{true, false}
use Rattle.std.proofs.lemmas.Bool.{false≢true}
use Rattle.words.specs.declared.call_word.CallFields.{CallFields}
use Rattle.shapes.specs.declared.Board.{Board}
use Rattle.tables.specs.State.{Opt, some, Table}
use Rattle.sound.specs.Clauses.{has}
use Rattle.sound.specs.Laws.Tests.{and_says}
use Rattle.rules.specs.declared.Uses.{Uses}
use Rattle.rules.specs.Rules.{Effect, done, refused, check, create, delete, prepare, collect, give, take, cut, merge, load, unload, read_region, find, switch, clear_out, pack, uses, unused, region_call, known, numbered, perform, serve}
use Rattle.rules.specs.Laws.Ran.{check_done}
use Rattle.words.specs.declared.Refusal.TheVariants.{BadWord}

pub record EachService {ℓ} (C : Effect → Type ℓ) (board : Board) (t : Table) (f : CallFields) : Type ℓ where
  pub create : f.service ≡ 1 → C (create t f.slot.0)
  pub delete : f.service ≡ 2 → C (delete t f.partition.0)
  pub prepare : f.service ≡ 3 → C (prepare t f.partition.0 f.slot.0)
  pub collect : f.service ≡ 4 → C (collect t f.partition.0 f.other)
  pub give : f.service ≡ 5 → C (give t f.partition.0 f.slot.0 f.rights f.whole)
  pub take : f.service ≡ 6 → C (take t f.slot.0)
  pub cut : f.service ≡ 7 → C (cut t f.slot.0 f.line.0)
  pub merge : f.service ≡ 8 → C (merge t f.slot.0 f.other)
  pub load : f.service ≡ 9 → f.rights.execute ≡ false → C (load board t f.partition.0 f.slot.0 f.other)
  pub unload : f.service ≡ 9 → f.rights.execute ≡ true → C (unload t f.partition.0 f.other)
  pub read_region : f.service ≡ 11 → C (read_region t f.partition.0 f.other)
  pub find : f.service ≡ 12 → C (find t f.partition.0 f.line.0)
  pub switch : f.service ≡ 13 → C (switch t f.partition.0)
  pub clear_out : f.service ≡ 14 → C (clear_out t f.partition.0)
  pub pack : f.service ≡ 15 → C (pack t f.partition.0)

module _ {ℓ} (C : Effect → Type ℓ) (board : Board) (t : Table) (f : CallFields) where
  -- a row of `uses` and of `perform`, or the rows after it
  row : (k : ℕ) (x : Uses) (o : Opt Uses) (r q : Effect) → (f.service ≡ k → C r) → (has (λ y. unused y f) o ≡ true → C q)
      → has (λ y. unused y f) (cond (eqb f.service k) (some x) o) ≡ true → C (cond (eqb f.service k) r q)
  row k x o r q here after = go (eqb f.service k) refl
    where
      go : (b : Bool) → eqb f.service k ≡ b → has (λ y. unused y f) (cond b (some x) o) ≡ true → C (cond b r q)
      go true z h = here (eqb-true f.service k z)
      go false z h = after h

  -- R of service 9 says which
  region : EachService C board t f → f.service ≡ 9 → C (numbered board 9 t f)
  region e q = go f.rights.execute refl
    where
      go : (b : Bool) → f.rights.execute ≡ b → C (numbered board 9 t f)
      go true z = rw z (e.unload q z)
      go false z = rw z (e.load q z)

  pub perform_each : known f ≡ true → EachService C board t f → C (perform board t f)
  unfolding has uses known perform
  perform_each h e =
      row 1 _ _ _ _ e.create
      (row 2 _ _ _ _ e.delete
      (row 3 _ _ _ _ e.prepare
      (row 4 _ _ _ _ e.collect
      (row 5 _ _ _ _ e.give
      (row 6 _ _ _ _ e.take
      (row 7 _ _ _ _ e.cut
      (row 8 _ _ _ _ e.merge
      (row 9 _ _ _ _ (region e)
      (row 11 _ _ _ _ e.read_region
      (row 12 _ _ _ _ e.find
      (row 13 _ _ _ _ e.switch
      (row 14 _ _ _ _ e.clear_out
      (row 15 _ _ _ _ e.pack
      (λ z. absurd (false≢true z))))))))))))))) (and_says (not (eqb f.service 9) || region_call f) (has (λ y. unused y f) (uses f.service)) h).1

  pub serve_each : C (refused BadWord) → EachService C board t f → C (serve board t f)
  unfolding check serve
  serve_each two e = go (known f) refl
    where
      go : (b : Bool) → known f ≡ b → C (check BadWord b (perform board t f))
      go true h = perform_each h e
      go false h = two

-- ── what is done ──
module _ (board : Board) (t : Table) (f : CallFields) {v w : ℕ} {t' : Table} where
  pub serve_done : serve board t f ≡ done v w t' → (known f ≡ true) × (perform board t f ≡ done v w t')
  unfolding serve
  serve_done z = check_done BadWord (known f) z

  -- .. was done by one of the services
  pub done_each : {A : Type 0} → serve board t f ≡ done v w t' → EachService (λ r. r ≡ done v w t' → A) board t f → A
  done_each z e = let (h, y) = serve_done z in perform_each _ board t f h e y

-- ── the service of a number ──
pub perform_at : (board : Board) (n : ℕ) (t : Table) (f : CallFields) → f.service ≡ n → perform board t f ≡ numbered board n t f
unfolding perform
perform_at board n t f q = ap (λ (m : ℕ). numbered board m t f) q

module _ (board : Board) (t : Table) (f : CallFields) where
  pub region_loads : f.rights.execute ≡ false → numbered board 9 t f ≡ load board t f.partition.0 f.slot.0 f.other
  region_loads z = rw z refl

  pub region_unloads : f.rights.execute ≡ true → numbered board 9 t f ≡ unload t f.partition.0 f.other
  region_unloads z = rw z refl

pub known_at : (n : ℕ) (f : CallFields) {x : Uses} → f.service ≡ n → uses n ≡ some x → (not (eqb n 9) || region_call f) && unused x f ≡ known f
unfolding known has
known_at n f q z = rw (q, z) refl
