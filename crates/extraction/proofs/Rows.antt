-- The node table and the rows that the code fills are those of nextstate's `threads_below`, in words, for an accepted sheet with at
-- most 32 waits. Assumes nothing.
use mathlib.Core.Path.{◌≡◌, refl, sym, ap, ◌∙◌, subst}
use mathlib.Core.Bool.{Bool, true, false, ◌||◌}
use mathlib.Core.List.{List, [], ◌∷◌, ◌++◌, append_assoc, append-nil}
use Prim.Native.Nat.{ℕ, zero, suc, ◌+◌, ◌-◌, ◌*◌, ◌≤◌, ◌<◌}
use native.Mathlib.Nat.{le_refl}
use native.Mathlib.Omega.{arith}
use lib.Dec.{ltb}
use lib.ListN.{length, get_or, set, take, replicate, length-append}
use lib.Seq.{take-suc, take_all, length-take-le}
use borrow.Author.Tests.{ltb-true, ltb-false, lt-ltb}
use Rattle.values.specs.Values.{pick}
use Rattle.sheet.specs.Reading.{Res, ok, no, ◌>>=◌}
use Rattle.sheet.specs.Expression.{Expr, Scope}
use Rattle.sheet.specs.Module.{Module}
use Rattle.soundness.specs.Soundness.{SoundInstr, sound-wait, sound-set, sound-later, sound-go, sound-ifnot, SoundCode, Sound}
use Rattle.masks.specs.Masks.{bits, mask, either}
use Rattle.masks.proofs.Masks.{length-bits, bits-mask, length-either, get_d-either}
use Rattle.pseudocode.specs.Translation.{Instr}
use Rattle.pseudocode.specs.declared.Instruction.{Instruction}
use Rattle.pseudocode.specs.Filling.{after}
use Rattle.pseudocode.specs.Fetching.{fetch_at}
use Rattle.pseudocode.proofs.Filling.{after-in}
use Rattle.state.specs.Rows.{list_of}
use Rattle.state.proofs.Rows.{length-list_of}
use Rattle.events.specs.Cycle as cycle
use Rattle.events.specs.Cycle.{code_of, instr_at, is_wait}
use Rattle.nextstate.specs.Rules.{plain_writes, defers, writes, one, waits_before, waits_below}
use Rattle.nextstate.specs.Nodes.{a_variable, node_words, all_words, padded}
use Rattle.nextstate.specs.Walk as the-walk
use Rattle.nextstate.specs.Walk.{own_rows}
use Rattle.nextstate.specs.Extraction.{Tables, walk_from, walks_below, threads_below, variable_nodes}
use Rattle.extraction.specs.declared.Thread.{Thread}
use Rattle.extraction.specs.declared.Walked.{Walked}
use Rattle.extraction.specs.Walking.{own_at, Walking, walked, walk_at}
use Rattle.extraction.specs.Filling.{variables_below, row_below, put_row, Filling, filling, extent}
use Rattle.extraction.specs.Filling.{waits, walk_row, walk_from_at, walks_below_at, thread_at, threads_below_at}
use Rattle.extraction.proofs.Words.{put_one, table_of, table_more}
use Rattle.extraction.proofs.Placing.{Fetched, a-wait!, a-set!, a-later!, a-go, an-ifnot, AllFetched}
use Rattle.extraction.proofs.Holding.{own_same, length-own}
use Rattle.extraction.proofs.Walks.{Ends, arrives, too_many, Long, walk-stays, walks}

-- ---- one node for each variable

padded-none : (size : ℕ) → padded size [] ≡ replicate size 0
unfolding padded
padded-none size = let e : size - 0 ≡ size = omega arith in ap (λ (n : ℕ). replicate n 0) e

variables-table : (n : ℕ) → n ≤ 4096 → variables_below n (table_of []) ≡ table_of (list_of n a_variable)
unfolding variables_below list_of node_words
variables-table zero h = refl
variables-table (suc n) h =
    let t = list_of n a_variable in
    let l = length-list_of a_variable n in
    let e = table_more t (a_variable n) 0 n 0 0 refl (omega arith) in
    rw (variables-table n (omega arith)) (rw l at e)

-- ---- a row behind the last

module _ (r : ℕ) (rs row : List ℕ) (short : r < 32) (here : length rs ≡ 33 * r) (long : length row ≡ 32) where
  row-table : (n : ℕ) → n ≤ 32 → row_below r row n (padded 1056 rs) ≡ padded 1056 (rs ++ take n row)
  unfolding row_below
  row-table zero h = ap (padded 1056) (sym (append-nil rs))
  row-table (suc n) h =
      let x = get_or row n 0 in
      let l = rs ++ take n row in
      let e : length l ≡ 33 * r + n = length-append rs (take n row) ∙ omega (arith, length-take-le n row (omega arith)) in
      ap (λ (k : List ℕ). set k (33 * r + n) x) (row-table n (omega arith))
      ∙ put_one 1056 l (33 * r + n) x e (omega arith)
      ∙ ap (padded 1056) (append_assoc rs (take n row) (x ∷ []) ∙ ap (λ (k : List ℕ). rs ++ k) (sym (take-suc row n 0 (omega arith))))

  put-table : (n place : ℕ) → put_row r (walked n place row) (padded 1056 rs) ≡ padded 1056 (rs ++ (row ++ (place ∷ [])))
  unfolding put_row
  put-table n place =
      let whole : row_below r row 32 (padded 1056 rs) ≡ padded 1056 (rs ++ row) =
      row-table 32 (le_refl 32) ∙ ap (λ (k : List ℕ). padded 1056 (rs ++ k)) (take_all 32 row (omega arith)) in
      ap (λ (k : List ℕ). set k (33 * r + 32) place) whole
      ∙ put_one 1056 (rs ++ row) (33 * r + 32) place (length-append rs row ∙ omega arith) (omega arith)
      ∙ ap (padded 1056) (append_assoc rs row (place ∷ []))

  length-rows : (place : ℕ) → length (rs ++ (row ++ (place ∷ []))) ≡ 33 * (r + 1)
  length-rows place = length-append rs (row ++ (place ∷ [])) ∙ omega (arith, length-append row (place ∷ []))

-- ---- the number of waits rises

rises_by : (f : ℕ → ℕ) (n k : ℕ) → f k ≤ f (suc k) → (n ≤ k → f n ≤ f k) → n ≤ suc k → (t : Bool) → ltb n (suc k) ≡ t → f n ≤ f (suc k)
rises_by f n k step before h true e =
    let l = ltb-true n (suc k) e in
    let a = before (omega arith) in
    omega arith
rises_by f n k step before h false e =
    let l = ltb-false n (suc k) e in
    let q : n ≡ suc k = omega arith in
    rw q (le_refl (f (suc k)))

rises : (f : ℕ → ℕ) → ((k : ℕ) → f k ≤ f (suc k)) → (n k : ℕ) → n ≤ k → f n ≤ f k
rises f step n zero h = let e : n ≡ 0 = omega arith in rw e (le_refl (f 0))
rises f step n (suc k) h = rises_by f n k (step k) (rises f step n k) h (ltb n (suc k)) refl

waits-more : (c : List (Instr Expr)) (k : ℕ) → waits_before c k ≤ waits_before c (suc k)
unfolding waits_before
waits-more c k = omega arith

waits-before : (c : List (Instr Expr)) (n k : ℕ) → n ≤ k → waits_before c n ≤ waits_before c k
waits-before c n k h = rises (waits_before c) (waits-more c) n k h

threads_more : (m : Module Expr) (k : ℕ) → waits_below m k ≤ waits_below m (suc k)
unfolding waits_below
threads_more m k = omega arith

pub waits-below : (m : Module Expr) (n k : ℕ) → n ≤ k → waits_below m n ≤ waits_below m k
waits-below m n k h = rises (waits_below m) (threads_more m) n k h

-- ---- a wait by its instruction and as it was fetched

fetched-waits : {c : Scope} {s : List ℕ} {j : Instr Expr} {u : Instruction} → Fetched c s j u → waits u ≡ is_wait j
unfolding waits is_wait
fetched-waits a-wait! = refl
fetched-waits (a-set! r) = refl
fetched-waits (a-later! r) = refl
fetched-waits a-go = refl
fetched-waits (an-ifnot r) = refl

-- A wait is no thread's last instruction.
wait-inside : {c : Scope} {n p : ℕ} {j : Instr Expr} → SoundInstr c n p j → is_wait j ≡ true → p + 1 < n
unfolding is_wait
wait-inside (sound-wait h x) e = h
wait-inside (sound-set h x) e = h
wait-inside (sound-later h x) e = h
wait-inside (sound-go h) e = let z : ◌≡◌ {A = ℕ} 0 1 = cc in absurd (omega arith)
wait-inside (sound-ifnot w h g x) e = h

-- ---- what the code leaves, beside what the definition says: r rows

pub record Filled (x : Filling) (r : ℕ) (T : Tables) : Type 0 where
  pub same : x ≡ filling (extent (length T.nodes) r) (table_of T.nodes) (padded 1056 T.rows)
  pub room : length T.nodes ≤ 4096
  pub rows : length T.rows ≡ 33 * r

pub data Fills (x : Filling) (r : ℕ) : Res Tables → Type 0 where
  filled : {T : Tables} → Filled x r T → Fills x r (ok T)
  spilled : x.extent.nodes ≡ 4097 → Fills x r (no 21 0)

fills-as : {x : Filling} {r q : ℕ} {o : Res Tables} → r ≡ q → Fills x r o → Fills x q o
fills-as {x} {o = o} e f = subst (λ (n : ℕ). Fills x n o) e f

-- ---- the variables

variables-filled : (n : ℕ) → n ≤ 4096
    → Filled (filling (extent n 0) (variables_below n (replicate 16384 0)) (replicate 1056 0)) 0 (record { nodes = list_of n a_variable; rows = [] })
unfolding all_words
variables-filled n h =
    let l = length-list_of a_variable n in
    let e = ap (variables_below n) (sym (padded-none 16384)) ∙ variables-table n h in
    record {
      same = λ i. filling (extent (sym l i) 0) (e i) (sym (padded-none 1056) i);
      room = omega arith;
      rows = refl;
    }

-- ---- a walk's row

row-then : (T : Tables) (r : ℕ) → r < 32 → length T.rows ≡ 33 * r → {o : Res the-walk.Walked} {w : Walking} → Ends w o
    → Fills (filling (extent w.answer.count (r + 1)) w.words (put_row r w.answer (padded 1056 T.rows))) (r + 1)
    (o >>= λ w. ok (record { nodes = w.nodes; rows = T.rows ++ (w.registers ++ (w.place ∷ [])) }))
row-then T r short here (arrives {x = x} v) =
    let e = put-table r T.rows x.registers short here v.long (length x.nodes) x.place in
    filled
    (record {
      same =
          (λ i. let w = v.same i in filling (extent w.answer.count (r + 1)) w.words (put_row r w.answer (padded 1056 T.rows)))
          ∙ (λ i. filling (extent (length x.nodes) (r + 1)) (table_of x.nodes) (e i));
      room = v.room;
      rows = length-rows r T.rows x.registers short here v.long x.place;
    })
row-then T r short here (too_many e) = spilled e

-- ---- where there are too many nodes already

module _ (s code : List ℕ) (t : Thread) (size : ℕ) where
  from-full : (p : ℕ) (x : Filling) → x.extent.nodes ≡ 4097 → (walk_from_at s code t size p x).extent.nodes ≡ 4097
  unfolding walk_from_at walk_row
  from-full p x e = by (waits (fetch_at s code t.number p)) (ltb x.extent.rows 32)
    where
      own : List ℕ
      own = own_at t.inputs t.registers

      w : Walking
      w = walk_at s code t size (after p) (own ∷ own ∷ []) x.extent.nodes x.words

      by : (b c : Bool)
          → (pick b (pick c (filling (extent w.answer.count (x.extent.rows + 1)) w.words (put_row x.extent.rows w.answer x.rows)) x) x).extent.nodes ≡ 4097
      by true true = rw e (walk-stays s code t size (after p) (own ∷ own ∷ []) x.words)
      by true false = e
      by false c = e

  pub below-full : (p : ℕ) (x : Filling) → x.extent.nodes ≡ 4097 → (walks_below_at s code t size p x).extent.nodes ≡ 4097
  unfolding walks_below_at
  below-full zero x e = e
  below-full (suc p) x e = from-full p (walks_below_at s code t size p x) (below-full p x e)

-- ---- a thread's walks

module _ (m : Module Expr) (z : Sound m) (none : m.scope.declared ≡ 0) (s code : List ℕ) (fetched : AllFetched s code m) (plain later : List ℕ)
    (plain-is : (i r : ℕ) → i < length m.threads → get_or (bits (get_or plain i 0)) r false ≡ plain_writes m i (m.scope.inputs + r))
    (later-is : (i r : ℕ) → i < length m.threads → get_or (bits (get_or later i 0)) r false ≡ defers m i (m.scope.inputs + r)) where
  module _ (i : ℕ) (l : i < length m.threads) where
    abbrev size : ℕ
    size = length (code_of m i)

    abbrev mine : Thread
    mine = thread_at m.scope.inputs m.scope.registers plain later i

    writing : (r : ℕ) → r < 32 → get_or (bits (mask (either (bits (get_or plain i 0)) (bits (get_or later i 0))))) r false ≡ writes m i (m.scope.inputs + r)
    unfolding writes
    writing r h =
        let p = bits (get_or plain i 0) in
        let q = bits (get_or later i 0) in
        let n = length-bits (get_or plain i 0) in
        ap (λ (bs : List Bool). get_or bs r false) (bits-mask (either p q) (length-either p q (n ∙ sym (length-bits (get_or later i 0))) ∙ n))
        ∙ get_d-either p q r
        ∙ (λ j. plain-is i r l j || later-is i r l j)

    sound : SoundCode m.scope (code_of m i)
    unfolding code_of
    sound = z.code i l

    walk-row : (p : ℕ) (T : Tables) (r : ℕ) → is_wait (instr_at (code_of m i) p) ≡ true → p < size → r < 32 → length T.rows ≡ 33 * r
        → length T.nodes ≤ 4096
        → Fills (walk_row s code mine size p (filling (extent (length T.nodes) r) (table_of T.nodes) (padded 1056 T.rows))) (r + 1) (walk_from m i p T)
    unfolding walk_row walk_from thread_at own_rows instr_at
    walk-row p T r w inside short here room =
        let most = sound.most in
        let long : Long m i _ (get_or later i 0) z.registers-most writing (λ r h. later-is i r l) s none (own_rows m) =
        record { current = length-own m; later = length-own m } in
        rw (own_same m, after-in p (omega arith))
        (row-then T r short here
        (walks m i (mask (either (bits (get_or plain i 0)) (bits (get_or later i 0)))) (get_or later i 0) z.registers-most writing (λ r h. later-is i r l) s none code sound
        (λ p h. fetched i p l h) size (p + 1) (own_rows m) T.nodes long (wait-inside (sound.instruction p inside) w) room))

    from_then : (p : ℕ) → p < size → {x : Filling} {r : ℕ} {o : Res Tables} → Fills x r o → r + one (is_wait (instr_at (code_of m i) p)) ≤ 32
        → Fills (walk_from_at s code mine size p x) (r + one (is_wait (instr_at (code_of m i) p)))
        (o >>= λ U. pick (is_wait (instr_at (code_of m i) p)) (walk_from m i p U) (ok U))
    unfolding walk_from_at one thread_at
    from_then p inside {x} {r} (filled {T = T} v) few =
        rw (v.same, fetched-waits (fetched i p l inside)) (by (is_wait (instr_at (code_of m i) p)) refl few)
      where
        here : Filling
        here = filling (extent (length T.nodes) r) (table_of T.nodes) (padded 1056 T.rows)

        by : (b : Bool) → is_wait (instr_at (code_of m i) p) ≡ b → r + pick b 1 0 ≤ 32
            → Fills (pick b (pick (ltb r 32) (walk_row s code mine size p here) here) here) (r + pick b 1 0) (pick b (walk_from m i p T) (ok T))
        by true e h = let k : r < 32 = omega arith in rw (lt-ltb r 32 k) (walk-row p T r e inside k v.rows v.room)
        by false e h = fills-as (omega arith) (filled (record { same = refl; room = v.room; rows = v.rows }))
    from_then p inside {x} (spilled e) few = spilled (from-full s code mine size p x e)

    module _ (T : Tables) (r : ℕ) (here : length T.rows ≡ 33 * r) (room : length T.nodes ≤ 4096) (few : r + waits_before (code_of m i) size ≤ 32) where
      pub below-filled : (n : ℕ) → n ≤ size
          → Fills (walks_below_at s code mine size n (filling (extent (length T.nodes) r) (table_of T.nodes) (padded 1056 T.rows)))
          (r + waits_before (code_of m i) n) (walks_below m i n T)
      unfolding walks_below_at walks_below waits_before instr_at
      below-filled zero h = fills-as (omega arith) (filled (record { same = refl; room = room; rows = here }))
      below-filled (suc n) h =
          let k = waits-before (code_of m i) (suc n) size h in
          fills-as (omega arith) (from_then n h (below-filled n (omega arith)) (omega arith))

    thread-then : {x : Filling} {r : ℕ} {o : Res Tables} → Fills x r o → r + waits_before (code_of m i) size ≤ 32
        → Fills (walks_below_at s code mine size size x) (r + waits_before (code_of m i) size) (o >>= walks_below m i size)
    thread-then {r = r} (filled {T = T} v) few = rw v.same (below-filled T r v.rows v.room few size (le_refl size))
    thread-then {x = x} (spilled e) few = spilled (below-full s code mine size size x e)

  -- ---- all threads

  module _ (sizes : List ℕ) (size_is : (i : ℕ) → i < length m.threads → get_or sizes i 0 ≡ length (code_of m i)) (variables : ℕ)
      (all-variables : length m.scope.widths ≡ variables) (few : waits_below m (length m.threads) ≤ 32) where
    pub threads-filled : (n : ℕ) → n ≤ length m.threads
        → Fills (threads_below_at s code sizes m.scope.inputs m.scope.registers plain later n
        (filling (extent variables 0) (variables_below variables (replicate 16384 0)) (replicate 1056 0)))
        (waits_below m n) (threads_below m n)
    unfolding threads_below_at threads_below waits_below variable_nodes cycle.variables
    threads-filled zero h =
        let i = z.inputs-most in
        let r = z.registers-most in
        let w = z.wires-most in
        let v = z.variables in
        rw all-variables (filled (variables-filled variables (omega arith)))
    threads-filled (suc n) h =
        let k = waits-below m (suc n) (length m.threads) h in
        rw (size_is n h) (thread-then n h (threads-filled n (omega arith)) (omega arith))
