-- THE THEOREMS, over words: after boot and after any list of calls, done or refused, the table is sound, so the four properties hold.
use Rattle.std.specs.Prelude.{◌≡◌, refl, List, [], ◌∷◌, ℕ}
use Rattle.std.proofs.Common.{ap, sym, ◌∙◌, inl, inr}
use Rattle.words.specs.Kind.{fields_in, zeroed}
use Rattle.words.specs.Words.{call}
use Rattle.words.specs.declared.call_word.CallFields.{CallFields}
use Rattle.shapes.specs.declared.Board.{Board}
use Rattle.tables.specs.State.{Table}
use Rattle.tables.specs.View.{view}
use Rattle.tables.specs.Encode.{encode, Canon}
use Rattle.tables.specs.Fitting.{Words}
use Rattle.sound.specs.Sound.{Sound}
use Rattle.sound.specs.Clauses.{sound}
use Rattle.sound.specs.Laws.Canonical.{sound_canon}
use Rattle.sound.specs.Properties.{Isolated, EqualRights}
use Rattle.sound.specs.Laws.Properties.{core_rights, sound_isolated}
use Rattle.sound.specs.Laws.Core.{sound_core}
use Rattle.sound.specs.Laws.Sound.{few_all}
use Rattle.sound.specs.Whole.{Right, Few}
use Rattle.sound.proofs.Laws.List.{sound_means}
use Rattle.sound.proofs.Laws.Whole.{sound_right}
use Rattle.rules.specs.Rules.{Effect, done, refused, serve, call_on, boot_on, words_after}
use Rattle.rules.specs.Laws.Ran.{check_done}
use Rattle.rules.specs.Laws.Calls.{call_as}
use Rattle.rules.specs.Laws.Each.{serve_done, done_each, perform_at}
use Rattle.isolation.specs.Laws.Fits.{Good, right_good}
use Rattle.isolation.proofs.Laws.Create.{create_right}
use Rattle.isolation.proofs.Laws.Delete.{delete_right}
use Rattle.isolation.proofs.Laws.Prepare.{prepare_right}
use Rattle.isolation.proofs.Laws.Collect.{collect_right}
use Rattle.isolation.proofs.Laws.Give.{give_right}
use Rattle.isolation.proofs.Laws.Take.{take_right}
use Rattle.isolation.proofs.Laws.Cut.{cut_right}
use Rattle.isolation.proofs.Laws.Merge.{merge_right}
use Rattle.isolation.proofs.Laws.Regions.{load_right, unload_right, read_region_same_law}
use Rattle.isolation.specs.Laws.Find.{find_same}
use Rattle.isolation.proofs.Laws.Switch.{switch_right}
use Rattle.isolation.proofs.Laws.ClearOut.{clear_right}
use Rattle.isolation.proofs.Laws.Pack.{pack_right}
use Rattle.isolation.proofs.Laws.Boot.{boot_right}
use Rattle.isolation.proofs.Laws.Few.{create_few, delete_few, prepare_few, collect_few, give_few, take_few, cut_few, merge_few, load_few, unload_few, switch_few, clear_few, pack_few, boot_few}
use Rattle.isolation.specs.Whole.{Reads, after_all}
use Rattle.words.specs.declared.Refusal.{Refusal}
use Rattle.words.specs.declared.Refusal.TheVariants.{NotSound, BadWord}

-- ── one call ──
-- each service keeps a table right
pub serve_right : (b : Board) {t : Table} → Right t → (f : CallFields) {v w : ℕ} {t' : Table} → serve b t f ≡ done v w t' → Right t'
serve_right b {t} h f z =
    let p = f.partition.0 in
    let s = f.slot.0 in
    let u = f.other in
    let l = f.line.0 in
    done_each b t f z (record {
      create = λ _. create_right h s;
      delete = λ _. delete_right h p;
      prepare = λ _. prepare_right h p s;
      collect = λ _. collect_right h p u;
      give = λ _. give_right h p s f.rights f.whole;
      take = λ _. take_right h s;
      cut = λ _. cut_right h s l;
      merge = λ _. merge_right h s u;
      load = λ _ _. load_right b h p s u;
      unload = λ _ _. unload_right h p u;
      read_region = λ _ z. rw (read_region_same_law h p u z) h;
      find = λ _ z. rw (find_same h p l z) h;
      switch = λ _. switch_right h p;
      clear_out = λ _. clear_right h p;
      pack = λ _. pack_right h p;
    })

-- .. and the limit of pieces
pub serve_few : (b : Board) {t : Table} → Right t → Few b t → (f : CallFields) {v w : ℕ} {t' : Table} → serve b t f ≡ done v w t' → Few b t'
serve_few b {t} h few f z =
    let p = f.partition.0 in
    let s = f.slot.0 in
    let u = f.other in
    let l = f.line.0 in
    done_each b t f z (record {
      create = λ _. create_few b h few s;
      delete = λ _. delete_few b h few p;
      prepare = λ _. prepare_few b h few p s;
      collect = λ _. collect_few b h few p u;
      give = λ _. give_few b h few p s f.rights f.whole;
      take = λ _. take_few b h few s;
      cut = λ _. cut_few b h few s l;
      merge = λ _. merge_few b h few s u;
      load = λ _ _. load_few b h few p s u;
      unload = λ _ _. unload_few b h few p u;
      read_region = λ _ z. rw (read_region_same_law h p u z) few;
      find = λ _ z. rw (find_same h p l z) few;
      switch = λ _. switch_few b h few p;
      clear_out = λ _. clear_few b h few p;
      pack = λ _. pack_few b h few p;
    })

-- .. change nothing
pub serve_same : (b : Board) {t : Table} → Right t → (f : CallFields) → Reads f → {v w : ℕ} {t' : Table} → serve b t f ≡ done v w t' → t' ≡ t
serve_same b {t} h f (inl e) z = read_region_same_law h f.partition.0 f.other (sym (perform_at b 11 t f e) ∙ (serve_done b t f z).1)
serve_same b {t} h f (inr e) z = find_same h f.partition.0 f.line.0 (sym (perform_at b 12 t f e) ∙ (serve_done b t f z).1)

module _ (b : Board) (l : List ℕ) (w : ℕ) (small : Words l) where
  -- what is done was asked of a sound table, which the words are those of
  pub served : {v x : ℕ} {t' : Table} → call_on b l w ≡ done v x t' → Canon l × Right (view l) × (serve b (view l) (fields_in call w) ≡ done v x t')
  served z =
      let (q, y) = check_done NotSound (sound b l) (sym (call_as b l w) ∙ z) in
      let s = (sound_means b l).0 q in
      let c = sound_canon small s in
      (c, sound_right c s, (check_done BadWord (zeroed call w) y).1)

  pub call_right : {v x : ℕ} {t' : Table} → call_on b l w ≡ done v x t' → Right t'
  call_right z = let (_, h, y) = served z in serve_right b h (fields_in call w) y

  pub call_good : {v x : ℕ} {t' : Table} → call_on b l w ≡ done v x t' → Good b (encode t')
  call_good z =
      let (_, h, y) = served z in
      let s = (sound_means b l).0 (check_done NotSound (sound b l) (sym (call_as b l w) ∙ z)).0 in
      right_good b (serve_right b h (fields_in call w) y) (serve_few b h (few_all s) (fields_in call w) y)

  pub call_sound : {v x : ℕ} {t' : Table} → call_on b l w ≡ done v x t' → Sound b (encode t')
  call_sound z = (call_good z).sound

  -- a call that reads changes no word
  pub reads_same : Reads (fields_in call w) → {v x : ℕ} {t' : Table} → call_on b l w ≡ done v x t' → encode t' ≡ l
  reads_same e z = let (c, h, y) = served z in ap encode (serve_same b h (fields_in call w) e y) ∙ c.same

-- a refused call leaves the words as they were
pub refused_same : (b : Board) (l : List ℕ) (w : ℕ) {why : Refusal} → call_on b l w ≡ refused why → words_after l (call_on b l w) ≡ l
unfolding words_after
refused_same b l w z = rw z refl

pub boot_good : (b : Board) (l : List ℕ) (base end : ℕ) {v x : ℕ} {t' : Table} → boot_on l base end ≡ done v x t' → Good b (encode t')
boot_good b l base end z = right_good b (boot_right l base end z) (boot_few b l base end z)

pub boot_sound : (b : Board) (l : List ℕ) (base end : ℕ) {v x : ℕ} {t' : Table} → boot_on l base end ≡ done v x t' → Sound b (encode t')
boot_sound b l base end z = (boot_good b l base end z).sound

-- ── any list of calls ──
-- after a call, done or refused, the words are good
pub next_good : {b : Board} {l : List ℕ} → Good b l → (w : ℕ) → Good b (words_after l (call_on b l w))
unfolding words_after
next_good {b} {l} g w = one (call_on b l w) refl
  where
    one : (r : Effect) → call_on b l w ≡ r → Good b (words_after l r)
    one (done v x t') z = call_good b l w g.small z
    one (refused why) z = g

pub after_good : {b : Board} {l : List ℕ} → Good b l → (ws : List ℕ) → Good b (after_all b l ws)
unfolding after_all
after_good g [] = g
after_good {b = b} {l = l} g (w ∷ ws) = after_good {l = words_after l (call_on b l w)} (next_good g w) ws

module _ {b : Board} (l ws : List ℕ) (small : Words l) (s : Sound b l) where
  pub after_sound : Sound b (after_all b l ws)
  after_sound = (after_good (record { small = small; sound = s }) ws).sound

  pub after_isolated : Isolated (view (after_all b l ws))
  after_isolated = sound_isolated (after_all b l ws) after_sound

module _ (b : Board) (l ws : List ℕ) (base end : ℕ) {v x : ℕ} {t' : Table} (z : boot_on l base end ≡ done v x t') where
  pub from_boot_sound : Sound b (after_all b (encode t') ws)
  from_boot_sound = (after_good (boot_good b l base end z) ws).sound

  pub from_boot_isolated : Isolated (view (after_all b (encode t') ws))
  from_boot_isolated = sound_isolated (after_all b (encode t') ws) from_boot_sound

  -- so a merge whose other checks pass joins entries of equal rights
  pub from_boot_rights : EqualRights (view (after_all b (encode t') ws)).k
  from_boot_rights = core_rights (sound_core (after_all b (encode t') ws) from_boot_sound)
