-- Nodes and rows in words: one more is stored behind those that a table holds. Assumes nothing.
use mathlib.Core.Path.{◌≡◌, refl, sym, ap, ◌∙◌}
use mathlib.Core.List.{List, [], ◌∷◌, ◌++◌, append_assoc, append-nil}
use Prim.Native.Nat.{ℕ, suc, ◌+◌, ◌-◌, ◌*◌, ◌≤◌, ◌<◌}
use native.Mathlib.Numerals.{add-one}
use native.Mathlib.Omega.{arith}
use lib.ListN.{length, get_or, set, take, drop, length-append, replicate, drop_of_length-le}
use lib.Seq.{set_at, append_snoc, drop-cons, take-suc, take_all, length-take-le}
use Rattle.nextstate.specs.Nodes.{Node, a_variable, a_constant, an_unknown, a_unary, a_binary}
use Rattle.nextstate.specs.Nodes.{a_conditional, a_branch, four_words, node_words, all_words, padded}
use Rattle.extraction.specs.Emitting.{put_node, emit_words}
use Rattle.extraction.proofs.Emitting.{words_more}

-- ---- a word behind the last

pub put_one : (size : ℕ) (l : List ℕ) (i x : ℕ) → length l ≡ i → i < size → set (padded size l) i x ≡ padded size (l ++ (x ∷ []))
unfolding padded
put_one size l i x e h =
    let m = size - length (l ++ (x ∷ [])) in
    let n : size - length l ≡ suc m = omega (arith, length-append l (x ∷ [])) in
    ap (λ (k : ℕ). set (l ++ replicate k 0) i x) n ∙ set_at l 0 (replicate m 0) x i e ∙ sym (append_snoc l x (replicate m 0))

-- ---- the words of nodes

pub length-node : (n : Node) → length (node_words n) ≡ 4
unfolding node_words four_words
length-node (a_variable v) = refl
length-node (a_constant w n) = refl
length-node (an_unknown w) = refl
length-node (a_unary o a) = refl
length-node (a_binary o a b) = refl
length-node (a_conditional c a b) = refl
length-node (a_branch c a b) = refl

pub length-words : (t : List Node) → length (all_words t) ≡ 4 * length t
unfolding all_words
length-words [] = refl
length-words (n ∷ t) =
    let e = length-words t in
    let f = length-node n in
    length-append (node_words n) (all_words t) ∙ omega arith

pub words_append : (t : List Node) (n : Node) → all_words (t ++ (n ∷ [])) ≡ all_words t ++ node_words n
unfolding all_words
words_append [] n = append-nil (node_words n)
words_append (x ∷ t) n =
    ap (λ (l : List ℕ). node_words x ++ l) (words_append t n) ∙ sym (append_assoc (node_words x) (all_words t) (node_words n))

-- ---- one more node

pub put-node : (size n k a b c : ℕ) (l : List ℕ) → length l ≡ 4 * n → 4 * n + 3 < size
    → put_node n k a b c (padded size l) ≡ padded size (l ++ four_words k a b c)
unfolding put_node four_words
put-node size n k a b c l e h =
    let lk = l ++ (k ∷ []) in
    let la = lk ++ (a ∷ []) in
    let lb = la ++ (b ∷ []) in
    let ek : length lk ≡ 4 * n + 1 = length-append l (k ∷ []) ∙ omega arith in
    let ea : length la ≡ 4 * n + 2 = length-append lk (a ∷ []) ∙ omega arith in
    let eb : length lb ≡ 4 * n + 3 = length-append la (b ∷ []) ∙ omega arith in
    ap (λ (x : List ℕ). set (set (set x (4 * n + 1) a) (4 * n + 2) b) (4 * n + 3) c) (put_one size l (4 * n) k e (omega arith))
    ∙ ap (λ (x : List ℕ). set (set x (4 * n + 2) b) (4 * n + 3) c) (put_one size lk (4 * n + 1) a ek (omega arith))
    ∙ ap (λ (x : List ℕ). set x (4 * n + 3) c) (put_one size la (4 * n + 2) b ea (omega arith))
    ∙ put_one size lb (4 * n + 3) c eb h
    ∙ ap (padded size) (simp append_assoc)

-- The table of some nodes.
abbrev pub table_of : List Node → List ℕ
table_of t = padded 16384 (all_words t)

pub table_more : (t : List Node) (n : Node) (k a b c : ℕ) → node_words n ≡ four_words k a b c → length t < 4096
    → emit_words (length t) k a b c (table_of t) ≡ table_of (t ++ (n ∷ []))
table_more t n k a b c e h =
    words_more (length t) k a b c (table_of t) h
    ∙ put-node 16384 (length t) k a b c (all_words t) (length-words t) (omega arith)
    ∙ ap (padded 16384) (sym (words_append t n ∙ ap (λ (w : List ℕ). all_words t ++ w) e))

-- ---- a list copied over another

pub copy-turn : (s d : List ℕ) (k : ℕ) → k < length s → k < length d → set (take k s ++ drop k d) k (get_or s k 0) ≡ take (k + 1) s ++ drop (k + 1) d
copy-turn s d k h g =
    let x = get_or s k 0 in
    rw (add-one k)
    (ap (λ (l : List ℕ). set (take k s ++ l) k x) (drop-cons d k 0 g)
    ∙ set_at (take k s) (get_or d k 0) (drop (suc k) d) x k (length-take-le k s (omega arith))
    ∙ sym (append_snoc (take k s) x (drop (suc k) d))
    ∙ ap (λ (l : List ℕ). l ++ drop (suc k) d) (sym (take-suc s k 0 h)))

pub copy-end : (s d : List ℕ) (n : ℕ) → length s ≤ n → length d ≤ n → take n s ++ drop n d ≡ s
copy-end s d n h g =
    ap (λ (l : List ℕ). take n s ++ l) (drop_of_length-le d {i = n} g) ∙ append-nil (take n s) ∙ take_all n s h
