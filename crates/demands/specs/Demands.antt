-- THE DEMANDS, in the words in which they were made. This file only states them; Theorem.antt has the proof of each.
-- They speak of the four functions that C calls, by the promises under which these are proved: BootLent (ulavrepit_boot), CallLent (ulavrepit_call),
-- ListLent (ulavrepit_holders) and Handed (ulavrepit_runs), of face/specs. So CallLent board b w s r c s' reads: in the library for that board, lent the
-- table's bytes b, and s in *second, and handed the word w, ulavrepit_call answered r and left c and s'. The functions ask nothing of their caller. What is
-- supposed below of lent memory is one thing: that a byte is below 256. Each demand is made of the library for every board.
use Rattle.std.specs.Prelude.{◌≡◌, true, cond, List, [], ◌∷◌, ◌↔◌, ℕ, suc, ◌+◌, ◌-◌, ◌/◌, ◌%◌, ◌^◌, ◌≤◌, ◌<◌, eqb, length, get_or}
use Rattle.loops.specs.Loops.{count}
use Rattle.words.specs.Kind.{RoundTrips, fields_in}
use Rattle.words.specs.Words.{first, header, structure, regions, slot, call, boot}
use Rattle.words.specs.declared.Refusal.{Refusal}
use Rattle.words.specs.declared.Refusal.TheVariants.{NotSound, WrongLine, ShortList}
use Rattle.words.specs.Refusals.{number_of}
use Rattle.shapes.specs.declared.Board.{Board}
use Rattle.tables.specs.State.{Opt, none, some, Entry, Table}
use Rattle.tables.specs.View.{view}
use Rattle.tables.specs.Encode.{encode}
use Rattle.memory.specs.Bytes.{bytes_of}
use Rattle.tables.specs.Lines.{In, Holds}
use Rattle.tables.specs.WayUp.{names_over}
use Rattle.sound.specs.Sound.{Sound}
use Rattle.sound.specs.Properties.{Isolated}
use Rattle.sound.specs.Holders.{holders_of, sum_over, looks_of}
use Rattle.rules.specs.Rules.{done, boot_on}
use Rattle.isolation.specs.Ladder.{Ladder, finish, must, there, least, Least, Answers}
use Rattle.isolation.specs.Ladders.{boot_ladder, call_ladder}
use Rattle.runs.specs.declared.Run.{Run}
use Rattle.runs.specs.Runs.{runs_of, On, Chain, nth_run as run, runs_over}
use Rattle.ledger.specs.Ledger.{Ledger, opening, Event, nothing, apply, accepted, lines_named}
use Rattle.ledger.specs.Lists.{Lists, nth_name}
use Rattle.face.specs.Face.{handed, result_packed, Lent, CallLent, ListLent}
use Rattle.face.specs.Lists.{RunsLent}

-- ── what is lent, and what C reads out of a result word ──
abbrev pub Bytes : List ℕ → Type 0
Bytes b = (i : ℕ) → get_or b i 0 < 256

-- ulavrepit_boot, lent the bytes b, answered r and left c
abbrev pub BootLent : List ℕ → ℕ → ℕ → ℕ → List ℕ → Type 0
BootLent b base end r c = Lent 0 (boot_on (handed b) base end) b r c

abbrev pub refusal_in : ℕ → ℕ
refusal_in r = r % 2 ^ 8

abbrev pub caller_in : ℕ → ℕ
caller_in r = r / 2 ^ 8 % 2 ^ 8

abbrev pub first_in : ℕ → ℕ
first_in r = r / 2 ^ 32

-- done: no refusal has number 0
abbrev pub Accepted : ℕ → Type 0
Accepted r = refusal_in r ≡ 0

-- ── DEMAND 1 ──
-- Any table and any call word, damaged or invented, gets an answer. Each entry point refuses bad input itself with the number that document 01 gives, and
-- a refusal changes no word of any lent buffer.

-- A ladder (isolation/specs/Ladder) is a row of document 01: conditions, each with the refusal that is due where it fails, then the effect.
-- Refusal n applies: a condition of number n fails, whether or not others fail too. A condition that speaks of an entry, or of a free number, is asked
-- only where there is one.
pub data Applies : Ladder → ℕ → Type 1 where
  fails : {why : Refusal} {P : Type 0} {c : Ladder} → (P → ⊥) → Applies (must why P c) (number_of why)
  later : {n : ℕ} {why : Refusal} {P : Type 0} {c : Ladder} → Applies c n → Applies (must why P c) n
  missing : {A : Type 0} {why : Refusal} {o : Opt A} {c : A → Ladder} → o ≡ none → Applies (there why o c) (number_of why)
  of_entry : {A : Type 0} {n : ℕ} {why : Refusal} {o : Opt A} {c : A → Ladder} (a : A) → o ≡ some a → Applies (c a) n → Applies (there why o c) n
  no_lowest : {k : ℕ} {why : Refusal} {P : ℕ → Type 0} {c : ℕ → Ladder} → ((i : ℕ) → i < k → P i → ⊥) → Applies (least why k P c) (number_of why)
  of_lowest : {n k : ℕ} {why : Refusal} {P : ℕ → Type 0} {c : ℕ → Ladder} (i : ℕ) → Least k P i → Applies (c i) n → Applies (least why k P c) n

-- where several apply, the lowest
pub record LowestRefusal (l : Ladder) (n : ℕ) : Type 1 where
  pub applies : Applies l n
  pub lowest : (m : ℕ) → Applies l m → n ≤ m

-- the result r of a function whose row is l
pub record Answered (l : Ladder) (r : ℕ) (Unchanged : Type 0) : Type 1 where
  -- refused with n exactly where n is the lowest number that applies, done exactly where none applies
  pub refuses : (n : ℕ) → 0 < n → (refusal_in r ≡ n) ↔ LowestRefusal l n
  pub accepts : Accepted r ↔ ((n : ℕ) → Applies l n → ⊥)
  -- refused, the first value is 0 and all that was lent is as before
  pub unchanged : (Accepted r → ⊥) → (first_in r ≡ 0) × Unchanged

-- the row of holders, of a line and a list of so many bytes: 1, 7, 17; what is written where none applies is said below, in demand 2
abbrev pub holders_ladder : Board → List ℕ → ℕ → ℕ → Ladder
holders_ladder board t m size =
    must NotSound (Sound board t)
    (must WrongLine (((view t).k.base ≤ m) × (m < (view t).k.stop))
    (must ShortList (16 ≤ size)
    (finish (length (holders_of (view t).k m)) (looks_of (view t).k m) (view t))))

-- Each longest run of lines with the same holders, in rising order, where Holder p l says that p holds line l: the runs go from base to end, the lines of
-- a run have the same holders, those of the next one have others, and deepest is the last name in the list of each line's holders.
pub record LongestRuns (Holder : ℕ → ℕ → Type 0) (up : ℕ → ℕ) (base end : ℕ) (rs : List Run) : Type 0 where
  pub chain : Chain base end rs
  pub same : (i l m : ℕ) → i < length rs → On (run rs i) l → On (run rs i) m → (p : ℕ) → Holder p l ↔ Holder p m
  pub differ : (i l m : ℕ) → suc i < length rs → On (run rs i) l → On (run rs (suc i)) m → ((p : ℕ) → Holder p l ↔ Holder p m) → ⊥
  pub deepest : (i l : ℕ) → i < length rs → On (run rs i) l → (hs : List ℕ) × Lists (λ p. Holder p l) up hs × (nth_name hs (length hs - 1) ≡ (run rs i).deepest.0)

-- those of a table: who has an entry with the line holds it
abbrev pub TableRuns : List ℕ → List Run → Type 0
TableRuns t rs = LongestRuns (Holds (view t).k.slot) (view t).k.parent (view t).k.base (view t).k.stop rs

-- the row of runs, of a list of so many records: 1, 17
abbrev pub runs_ladder : Board → List ℕ → ℕ → Ladder
runs_ladder board t size =
    must NotSound (Sound board t)
    (must ShortList ((rs : List Run) → TableRuns t rs → length rs ≤ size)
    (finish (length (runs_of (view t).k)) 0 (view t)))

pub record DemandOne (board : Board) : Type 1 where
  -- whatever is handed over gets an answer; the fields below say which, and that the functions promise no other
  pub boot_answers : (base end : ℕ) (b : List ℕ) → (r : ℕ) × (c : List ℕ) × BootLent b base end r c
  pub call_answers : (b : List ℕ) (w s : ℕ) → (r : ℕ) × (c : List ℕ) × (s' : ℕ) × CallLent board b w s r c s'
  pub holders_answers : (b : List ℕ) (m : ℕ) (list : List ℕ) (s : ℕ) → (r : ℕ) × (after : List ℕ) × (s' : ℕ) × ListLent board b m list s r after s'
  pub runs_answers : (b : List ℕ) (list : List Run) → (r : ℕ) × (after : List Run) × RunsLent board b list r after
  pub boot : (base end : ℕ) {b : List ℕ} {r : ℕ} {c : List ℕ} → BootLent b base end r c
      → Answered (boot_ladder (handed b) base end) r (c ≡ b)
  pub call : {b : List ℕ} {w s r : ℕ} {c : List ℕ} {s' : ℕ} → Bytes b → CallLent board b w s r c s'
      → Answered (call_ladder board (handed b) w) r ((c ≡ b) × (s' ≡ s))
  -- holders and runs are lent the table for reading only
  pub holders : {b : List ℕ} {m : ℕ} {list : List ℕ} {s r : ℕ} {after : List ℕ} {s' : ℕ} → ListLent board b m list s r after s'
      → Answered (holders_ladder board (handed b) m (length list)) r ((after ≡ list) × (s' ≡ s))
  pub runs : {b : List ℕ} {list : List Run} {r : ℕ} {after : List Run} → RunsLent board b list r after
      → Answered (runs_ladder board (handed b) (length list)) r (after ≡ list)
  -- beside the number of a call stands the caller, as before the call; 0 where refusal 1 is given
  pub caller : {b : List ℕ} {w s r : ℕ} {c : List ℕ} {s' : ℕ} → Bytes b → CallLent board b w s r c s'
      → (refusal_in r ≡ 1 → caller_in r ≡ 0) × ((refusal_in r ≡ 1 → ⊥) → caller_in r ≡ (view (handed b)).k.current)
  -- C reads what was packed into a result
  pub reads : (n p v : ℕ) → n < 2 ^ 8 → p < 2 ^ 8 → (refusal_in (result_packed n p v) ≡ n) × (caller_in (result_packed n p v) ≡ p) × (first_in (result_packed n p v) ≡ v)

-- ── DEMAND 2 ──
-- Each service changes the tables and answers exactly as 01 says. After every accepted call the four properties of the Pip-MPU paper stand. Packed words
-- round-trip both ways.

-- what was done by the row l, with these two values, and left the bytes c
pub record Changed (l : Ladder) (value second : ℕ) (c : List ℕ) : Type 1 where
  -- values and table are those of the row
  pub table : Table
  pub row : Answers l (done value second table)
  -- the bytes are that table's, and whatever is called next reads that table in them
  pub bytes : c ≡ bytes_of (encode table)
  pub words : handed c ≡ encode table
  pub read : view (handed c) ≡ table
  -- vertical sharing, horizontal isolation of two different children, kernel data isolation, regions loaded only from own accessible blocks
  pub isolated : Isolated (view (handed c))

-- How many slot words the search of p's record for line m looks at, in the table t: slots 0 up to the lowest whose entry has the line, empty ones counted,
-- or 32 if none has it.
pub data LooksAt (t : List ℕ) (m p : ℕ) : ℕ → Type 0 where
  found : (i : ℕ) → Least 32 (λ j. (e : Entry) × ((view t).k.slot p j ≡ some e) × In m e) i → LooksAt t m p (i + 1)
  not_found : ((i : ℕ) → i < 32 → (e : Entry) × ((view t).k.slot p i ≡ some e) × In m e → ⊥) → LooksAt t m p 32

-- the sum of such searches, one for each of these names
pub record LooksSummed (t : List ℕ) (m : ℕ) (names : List ℕ) (sum : ℕ) : Type 0 where
  pub words : ℕ → ℕ
  pub looks : (p : ℕ) → LooksAt t m p (words p)
  pub sum_is : sum ≡ sum_over words names
  pub few : sum ≤ 512

-- the holders, written into a list: the first bytes are their names, root first, each the parent of the next, each once, and no other list is so; the rest
-- stays; and how far was looked for them in the table t
pub record HoldersWritten (t : List ℕ) (m : ℕ) (Holder : ℕ → Type 0) (up : ℕ → ℕ) (list : List ℕ) (number second : ℕ) (after : List ℕ) : Type 0 where
  pub names : List ℕ
  pub listing : Lists Holder up names
  pub only : (hs : List ℕ) → Lists Holder up hs → hs ≡ names
  pub number_is : number ≡ length names
  pub bytes : after ≡ names_over names list
  pub looked : LooksSummed t m names second

-- the runs, written into a list: likewise
pub record RunsWritten (Runs : List Run → Type 0) (list : List Run) (number : ℕ) (after : List Run) : Type 0 where
  pub runs : List Run
  pub longest : Runs runs
  pub only : (rs : List Run) → Runs rs → rs ≡ runs
  pub number_is : number ≡ length runs
  pub fits : length runs ≤ length list
  pub records : after ≡ runs_over runs list

-- the event of a call, by its result word: a refused one is none; `accepted` (ledger/specs/Ledger) says what others are, by their caller, their first value
-- and the lines of the entry that they name, all that is read of the table
abbrev pub happened : Board → List ℕ → ℕ → ℕ → Ledger → Event
happened board b w r g = cond (eqb (refusal_in r) 0) (accepted g (fields_in call w) (caller_in r) (first_in r) (lines_named board (handed b) w)) nothing

-- .. entered in a ledger
abbrev pub entered : Board → List ℕ → ℕ → ℕ → Ledger → Ledger
entered board b w r g = apply (happened board b w r g) g

-- calls of the words ws, one after the other, each handed the bytes that the one before it left, take the table from b to d, and a ledger from g to h
pub data Called (board : Board) : List ℕ → Ledger → List ℕ → List ℕ → Ledger → Type 0 where
  no_call : {b : List ℕ} {g : Ledger} → Called board b g [] b g
  one_call : {b c d ws : List ℕ} {w s r s' : ℕ} {g h : Ledger} → CallLent board b w s r c s' → Called board c (entered board b w r g) ws d h → Called board b g (w ∷ ws) d h

-- of each kind: a word, read and written, is the same word; fields, written and read, are the same fields
pub record PackedWords : Type 0 where
  pub first : RoundTrips first
  pub header : RoundTrips header
  pub structure : RoundTrips structure
  pub regions : RoundTrips regions
  pub slot : RoundTrips slot
  pub call : RoundTrips call
  pub boot : RoundTrips boot

pub record DemandTwo (board : Board) : Type 1 where
  pub boot : (base end : ℕ) {b : List ℕ} {r : ℕ} {c : List ℕ} → BootLent b base end r c → Accepted r
      → Changed (boot_ladder (handed b) base end) (first_in r) 0 c
  pub call : {b : List ℕ} {w s r : ℕ} {c : List ℕ} {s' : ℕ} → Bytes b → CallLent board b w s r c s' → Accepted r
      → Changed (call_ladder board (handed b) w) (first_in r) s' c
  -- from an accepted boot the properties stand after any list of calls
  pub calls : (base end : ℕ) {b : List ℕ} {r : ℕ} {c : List ℕ} → BootLent b base end r c → Accepted r → {g h : Ledger} {ws d : List ℕ} → Called board c g ws d h
      → Isolated (view (handed d))
  pub holders : {b : List ℕ} {m : ℕ} {list : List ℕ} {s r : ℕ} {after : List ℕ} {s' : ℕ} → ListLent board b m list s r after s' → Accepted r
      → HoldersWritten (handed b) m (λ p. Holds (view (handed b)).k.slot p m) (view (handed b)).k.parent list (first_in r) s' after
  pub runs : {b : List ℕ} {list : List Run} {r : ℕ} {after : List Run} → RunsLent board b list r after → Accepted r
      → RunsWritten (TableRuns (handed b)) list (first_in r) after
  pub packed_words : PackedWords

-- ── DEMAND 3 ──
-- A ledger kept by hand from an accepted boot (root holds all; an accepted give enters the child for the lines; take, delete or clear out strikes) always
-- equals our listing for each line: root first, each the parent of the next, each once, and no other.

-- the ledger g of base to end says what holders and runs do, handed the table's bytes d
pub record Tells (board : Board) (base end : ℕ) (g : Ledger) (d : List ℕ) : Type 0 where
  -- a line of base to end: holders is done, with the ledger's names, their number and the sum of their searches
  pub holders : {m : ℕ} {list : List ℕ} {s r : ℕ} {after : List ℕ} {s' : ℕ} → ListLent board d m list s r after s' → base ≤ m → m < end → 16 ≤ length list
      → Accepted r × HoldersWritten (handed d) m (λ p. g.stands p m ≡ true) g.parent list (first_in r) s' after × (first_in r ≡ count 16 (λ p. g.stands p m))
  -- two different children of one parent never stand for one line
  pub siblings : (m p q : ℕ) → (p ≡ 0 → ⊥) → (q ≡ 0 → ⊥) → g.parent p ≡ g.parent q → g.stands p m ≡ true → g.stands q m ≡ true → p ≡ q
  -- any other line: nobody stands for it, and holders refuses with 7
  pub nobody : (p m : ℕ) → g.stands p m ≡ true → (base ≤ m) × (m < end)
  pub outside : {m : ℕ} {list : List ℕ} {s r : ℕ} {after : List ℕ} {s' : ℕ} → ListLent board d m list s r after s' → ((base ≤ m) × (m < end) → ⊥)
      → (refusal_in r ≡ 7) × (after ≡ list) × (s' ≡ s)
  -- runs: by the ledger's names, deepest the last of them; refused, with 17, where the list is shorter than those runs
  pub runs : {list : List Run} {r : ℕ} {after : List Run} → RunsLent board d list r after → Accepted r
      → RunsWritten (LongestRuns (λ p l. g.stands p l ≡ true) g.parent base end) list (first_in r) after
  pub short : {list : List Run} {r : ℕ} {after : List Run} → RunsLent board d list r after → (Accepted r → ⊥)
      → (refusal_in r ≡ 17) × (after ≡ list) × ((rs : List Run) × LongestRuns (λ p l. g.stands p l ≡ true) g.parent base end rs × (length list < length rs))

pub record DemandThree (board : Board) : Type 0 where
  pub ledger : (base end : ℕ) {b : List ℕ} {r : ℕ} {c : List ℕ} → BootLent b base end r c → Accepted r → {ws d : List ℕ} {g : Ledger} → Called board c (opening base end) ws d g
      → Tells board base end g d
