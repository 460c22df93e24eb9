-- What the tests of S2 to S7 say of entries and the tree; and with S9, that each entry that was given is open exactly if all of the child's inside it are.
use Rattle.std.specs.Prelude.{◌≡◌, refl, true, ◌&&◌, ◌||◌, List, ℕ, ◌<◌}
use Rattle.std.proofs.Common.{sym, ◌∙◌, arith, ne_eqb, eqb-true}
use Rattle.std.proofs.Math.Decide.{ℕ_discrete}
use Rattle.std.proofs.Math.Dec.{eqb}
use Rattle.loops.specs.Loops.{all}
use Rattle.loops.specs.Laws.Every.{all_at}
use Rattle.tables.specs.State.{some, Entry, K}
use Rattle.tables.specs.View.{view}
use Rattle.tables.specs.Laws.View.{slot_bounds, area_bounds}
use Rattle.tables.specs.Search.{child, present}
use Rattle.sound.specs.Sound.{Present, S2, S5, S9}
use Rattle.sound.specs.Clauses.{s3, s4, s5, s6, s7_given, s7_inside, s7_cover}
use Rattle.sound.specs.Laws.Tests.{and_says, every_says}
use Rattle.sound.specs.Laws.Grants.{Grants}
use Rattle.sound.specs.Laws.Local.{RootAreas, given_clear}
use Rattle.sound.proofs.Laws.MeansEntries.{else_says, present_means, child_means, slots32, owner_present, inside_means, cover_means, s6_means}
use Rattle.sound.proofs.Laws.MeansWords.{s2_means, s4_means, s5_means}
use Rattle.shape.specs.AtOnce.{Shaped}
use Rattle.shape.specs.Laws.AtOnce.{shaped_s2, shaped_record, shaped_s5}
use Rattle.decide.specs.Entries.{exactly}
use Rattle.decide.specs.Local.{grants_open}
use Rattle.decide.specs.Laws.Local.{grants_open_means, root_open}

module _ {l : List ℕ} (shaped : Shaped l) where
  two : (p : ℕ) → p < 16 → S2 l (view l).k p
  two p b = (s2_means l p b).0 (shaped_s2 shaped p b)

  pub five : (p : ℕ) → p < 16 → S5 l (view l).k p
  five p b = (s5_means l p b).0 (shaped_s5 shaped p b)

  pub owns : (p i : ℕ) (e : Entry) → (view l).k.slot p i ≡ some e → Present (view l).k p
  owns p i e u = owner_present l p i e (two p (slot_bounds l p i e u).0) u

  pub roots : RootAreas (view l).k
  roots =
      let (x, _) = and_says (s3 l 0 && s4 l (view l).k 0) (s5 l (view l).k 0) (shaped_record shaped 0 (omega arith)) in
      let (_, y) = and_says (s3 l 0) (s4 l (view l).k 0) x in
      record { header = ((two 0 (omega arith)).root refl).0; structure = ((s4_means l two 0 (omega arith)).0 y).root refl }

pub here : (l : List ℕ) (p : ℕ) → Present (view l).k p → (p < 16) × (present (view l).k p ≡ true)
here l p a = ((area_bounds l p 0 a.0 a.1).0, (present_means (view l).k p).1 a)

-- S7 of a present partition, but for whole entries
pub record SevenSays (k : K) (p : ℕ) : Type 0 where
  pub children : s7_given k p ≡ true
  pub exact : exactly k p ≡ true

module _ {l : List ℕ} (shaped : Shaped l) (apart : all 16 (s6 (view l).k) ≡ true) (seven : (p : ℕ) → Present (view l).k p → SevenSays (view l).k p) where
  abbrev k : K
  k = (view l).k

  pub given : (p i : ℕ) (e : Entry) → (view l).k.slot p i ≡ some e → (e.given ≡ 0 → ⊥) → Present (view l).k e.given × ((view l).k.parent e.given ≡ p)
  unfolding s7_given
  given p i e u n =
      let x = every_says 32 (λ i e. eqb e.given 0 || child k p e.given) (k.slot p) (seven p (owns shaped p i e u)).children i e (slot_bounds l p i e u).1 u in
      let (a, _, z) = (child_means k p e.given).0 (else_says (eqb e.given 0) (child k p e.given) x (λ z. n (eqb-true e.given 0 z))) in
      (a, z)

  exact_at : (p : ℕ) → (p ≡ 0 → ⊥) → Present k p → (s7_inside k p ≡ true) × (s7_cover k p ≡ true)
  unfolding exactly
  exact_at p n a = and_says (s7_inside k p) (s7_cover k p) (rw (ne_eqb p 0 n) at (seven p a).exact)

  pub shaped_grants : Grants (view l).k
  shaped_grants = record {
    top = ((two shaped 0 (omega arith)).root refl).1;
    climbs = λ p a. (two shaped p (here l p a).0).walk a;
    owner = owns shaped;
    range = λ p i e u. (five shaped p (slot_bounds l p i e u).0).range i e u;
    s6 = λ p i j e f n u. (s6_means l p).0 (all_at 16 (s6 k) apart p (slot_bounds l p i e u).0) i j e f n u;
    given = given;
    inside = λ c i e u n. (inside_means k (slots32 l) c).0 (exact_at c n (owns shaped c i e u)).0 i e u;
    cover = λ p i f n u z x.
        let (a, w) = given p i f u z in
        (cover_means k (slots32 l) f.given).0 (exact_at f.given z a).1 i f (rw w u) refl n x;
  }

  pub grants_open_law : ((p : ℕ) → S9 (view l) p) → (p : ℕ) → grants_open (view l) p ≡ true
  grants_open_law nine p = go (ℕ_discrete p 0)
    where
      go : Dec (p ≡ 0) → grants_open (view l) p ≡ true
      go (yes z) = root_open l p z
      go (no n) = (grants_open_means l p n).1 (λ j f u g.
          let (a, b) = given_clear shaped_grants (roots shaped) (k.parent p) j f u (λ z. n (sym g ∙ z)) in
          let (c, d) = nine (k.parent p) j f u in (
            λ q i e v o. (nine p i e v).1 (a (c q) i e (rw g v) o),
            λ h. d (b (λ i e v o. (nine p i e (rw g at v)).0 (h i e (rw g at v) o))),
          ))
