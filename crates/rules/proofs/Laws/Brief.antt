-- A first value fits in 32 bits.
use Rattle.std.specs.Prelude.{◌≡◌, refl, Bool, true, false, List, ℕ, ◌^◌, ◌<◌, Ok}
use Rattle.std.proofs.Common.{arith}
use Rattle.loops.specs.Laws.Count.{count_le}
use Rattle.words.specs.Kind.{fields_in}
use Rattle.words.specs.Words.{call}
use Rattle.words.specs.declared.Rights.{Rights}
use Rattle.words.specs.declared.call_word.CallFields.{CallFields}
use Rattle.shapes.specs.declared.Board.{Board}
use Rattle.tables.specs.State.{Opt, none, some, Entry, Table}
use Rattle.tables.specs.View.{view}
use Rattle.tables.specs.Search.{lowest}
use Rattle.tables.specs.Laws.Search.{lowest_some}
use Rattle.rules.specs.Rules.{Effect, done, refused, check, need, free_entry, create, delete, prepare, collect, give, take, cut, merge, load, unload, read_region, find, switch, branch, clear_out, pack, serve, call_on, boot_on}
use Rattle.rules.specs.Pack.{packing_of, usable, packed}
use Rattle.rules.proofs.Laws.Pack.{packed_few}
use Rattle.rules.specs.Laws.Each.{serve_each}
use Rattle.rules.specs.Ran.{outcome_of}
use Rattle.rules.specs.Laws.Ran.{refused_done, done_first}
use Rattle.rules.specs.Laws.Calls.{call_as}
use Rattle.words.specs.declared.Refusal.{Refusal}
use Rattle.words.specs.declared.Refusal.TheVariants.{NotSound, NoneFree, InPieces, BadWord, WrongPartition, NoEntry, NotOpen, Given, WrongLine, TooShort, MoreRights, Apart, TwoGrants, InUse, WrongRegion, LentWhole, ManyPieces}

pub data Brief : Effect → Type 0 where
  brief_done : {v w : ℕ} {t : Table} → v < 2 ^ 32 → Brief (done v w t)
  brief_refused : {why : Refusal} → Brief (refused why)

-- ── by the parts of a rule ──
checked : (why : Refusal) (b : Bool) {r : Effect} → Brief r → Brief (check why b r)
unfolding check
checked why true k = k
checked why false k = brief_refused

needed : {A : Type 0} (why : Refusal) (o : Opt A) {f : A → Effect} → ((a : A) → o ≡ some a → Brief (f a)) → Brief (need why o f)
unfolding need
needed why none k = brief_refused
needed why (some a) k = k a refl

-- .. by a number that was found
found : (why : Refusal) (m : ℕ) (f : ℕ → Bool) {g : ℕ → Effect} → ((i : ℕ) → i < m → Brief (g i)) → Brief (need why (lowest m f) g)
found why m f k = needed why (lowest m f) (λ i q. k i (lowest_some m f i q).below)

free : (t : Table) (s : ℕ) {f : Entry → Effect} → ((e : Entry) → Brief (f e)) → Brief (free_entry t s f)
unfolding free_entry
free t s k = needed NoEntry _ (λ e q. checked NotOpen _ (checked Given _ (k e)))

-- ── the services ──
module _ (t : Table) where
  create_brief : (s : ℕ) → Brief (create t s)
  unfolding create
  create_brief s = free t s λ e. found NoneFree 16 _ λ n h. checked TooShort _ (checked LentWhole _ (brief_done (omega arith)))

  delete_brief : (p : ℕ) → Brief (delete t p)
  unfolding delete
  delete_brief p = checked WrongPartition _ (checked InUse _ (brief_done (omega arith)))

  prepare_brief : (p s : ℕ) → Brief (prepare t p s)
  unfolding prepare
  prepare_brief p s = checked WrongPartition _ (free t s λ e. found NoneFree 4 _ λ j h. checked TooShort _ (checked LentWhole _ (brief_done (omega arith))))

  collect_brief : (p j : ℕ) → Brief (collect t p j)
  unfolding collect
  collect_brief p j = checked WrongPartition _ (checked NoEntry _ (checked InUse _ (brief_done (omega arith))))

  give_brief : (p s : ℕ) (r : Rights) (w : Bool) → Brief (give t p s r w)
  unfolding give
  give_brief p s r w = checked WrongPartition _ (free t s λ e. found NoneFree 32 _ λ n h. checked MoreRights _ (checked LentWhole _ (brief_done (omega arith))))

  take_brief : (s : ℕ) → Brief (take t s)
  unfolding take
  take_brief s = needed NoEntry _ λ e q. checked Given _ (found InPieces 32 _ λ i h. brief_done (omega arith))

  cut_brief : (s l : ℕ) → Brief (cut t s l)
  unfolding cut
  cut_brief s l = free t s λ e. checked WrongLine _ (found NoneFree 32 _ λ n h. checked LentWhole _ (brief_done (omega arith)))

  merge_brief : (s u : ℕ) → Brief (merge t s u)
  unfolding merge
  merge_brief s u =
      needed NoEntry _ λ e q. needed NoEntry _ λ f r.
      checked NotOpen _ (checked Given _ (checked Apart _ (checked TwoGrants _ (brief_done (omega arith)))))

  load_brief : (board : Board) (p s r : ℕ) → Brief (load board t p s r)
  unfolding load
  load_brief board p s r =
      checked WrongPartition _ (needed NoEntry _ λ e q.
      checked NotOpen _ (checked WrongRegion _ (checked ManyPieces _ (brief_done (omega arith)))))

  unload_brief : (p r : ℕ) → Brief (unload t p r)
  unfolding unload
  unload_brief p r = checked WrongPartition _ (checked WrongRegion _ (brief_done (omega arith)))

  read_brief : (p r : ℕ) → Brief (read_region t p r)
  unfolding read_region
  read_brief p r = checked WrongPartition _ (checked WrongRegion _ (brief_done (omega arith)))

  find_brief : (p l : ℕ) → Brief (find t p l)
  unfolding find
  find_brief p l = checked WrongPartition _ (found WrongLine 32 _ λ i h. brief_done (omega arith))

  switch_brief : (p : ℕ) → Brief (switch t p)
  unfolding switch
  switch_brief p = checked WrongPartition _ (brief_done (omega arith))

  clear_brief : (p : ℕ) → Brief (clear_out t p)
  unfolding clear_out
  clear_brief p = checked WrongPartition _ (brief_done (omega (arith, count_le 16 (branch t.k.parent p))))

  pack_brief : (p : ℕ) → Brief (pack t p)
  unfolding pack packed
  pack_brief p = checked WrongPartition _ (brief_done (omega (arith, packed_few (usable t.k p) (packing_of t p 0) 32)))

  -- ── a call word ──
  serve_brief : (board : Board) (f : CallFields) → Brief (serve board t f)
  serve_brief board f = serve_each Brief board t f brief_refused (record {
    create = λ _. create_brief f.slot.0;
    delete = λ _. delete_brief f.partition.0;
    prepare = λ _. prepare_brief f.partition.0 f.slot.0;
    collect = λ _. collect_brief f.partition.0 f.other;
    give = λ _. give_brief f.partition.0 f.slot.0 f.rights f.whole;
    take = λ _. take_brief f.slot.0;
    cut = λ _. cut_brief f.slot.0 f.line.0;
    merge = λ _. merge_brief f.slot.0 f.other;
    load = λ _ _. load_brief board f.partition.0 f.slot.0 f.other;
    unload = λ _ _. unload_brief f.partition.0 f.other;
    read_region = λ _. read_brief f.partition.0 f.other;
    find = λ _. find_brief f.partition.0 f.line.0;
    switch = λ _. switch_brief f.partition.0;
    clear_out = λ _. clear_brief f.partition.0;
    pack = λ _. pack_brief f.partition.0;
  })

pub call_brief : (board : Board) (l : List ℕ) (w : ℕ) → Brief (call_on board l w)
call_brief board l w = rw (call_as board l w) (checked NotSound _ (checked BadWord _ (serve_brief (view l) board (fields_in call w))))

pub boot_brief : (l : List ℕ) (base end : ℕ) → Brief (boot_on l base end)
unfolding boot_on
boot_brief l base end = checked NotSound _ (checked WrongLine _ (brief_done (omega arith)))

-- ── what an outcome shows ──
pub brief_first : {res : Effect} → Brief res → {v w : ℕ} → outcome_of res ≡ Ok (v, w) → v < 2 ^ 32
unfolding outcome_of
brief_first (brief_done h) q = let e = done_first q in omega arith
brief_first brief_refused q = absurd (refused_done q)
