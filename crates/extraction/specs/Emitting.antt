-- Nodes and expressions of nodes, as the code writes them: words in a table of any contents, with a count. Past 4,096 nodes
-- nothing more is written and the count is 4,097, for good. proofs/Expressing ties this to nextstate's `emit` and `express`.
use Rattle.std.specs.Prelude.{ℕ, zero, suc, ◌+◌, ◌-◌, ◌*◌, ◌/◌, ◌%◌, List, get_or, set, ltb}
use Rattle.values.specs.Values.{pick, ◌is◌then◌else◌}
use Rattle.sheet.specs.Reading.{word_of}
use Rattle.extraction.specs.declared.Expressed.{Expressed}

-- ---- one node more, in a table of n nodes

unfoldable pub put_node : ℕ → ℕ → ℕ → ℕ → ℕ → List ℕ → List ℕ
put_node n k a b c l = set (set (set (set l (4 * n) k) (4 * n + 1) a) (4 * n + 2) b) (4 * n + 3) c

unfoldable pub emit_words : ℕ → ℕ → ℕ → ℕ → ℕ → List ℕ → List ℕ
emit_words n k a b c l = pick (ltb n 4096) (put_node n k a b c l) l

unfoldable pub emit_count : ℕ → ℕ
emit_count n = pick (ltb n 4096) (n + 1) 4097

-- ---- an expression's nodes

-- The code's answer, with the table that it leaves.
pub record Expression : Type 0 where
  pub answer : Expressed
  pub words : List ℕ

abbrev pub expression : Expressed → List ℕ → Expression
expression r l = record { answer = r; words = l }

-- The number of one node, where the sheet goes on, and how many nodes there are.
abbrev pub expressed : ℕ → ℕ → ℕ → Expressed
expressed next node count = record { next = next; node = node; count = count }

-- A new node.
unfoldable pub made : ℕ → ℕ → ℕ → ℕ → ℕ → ℕ → List ℕ → Expression
made next n k a b c l = expression (expressed next n (emit_count n)) (emit_words n k a b c l)

-- Where no expression stands.
unfoldable pub unmade : ℕ → ℕ → List ℕ → Expression
unmade p n l = expression (expressed p 0 n) l

-- The node that stands for a variable: a register's is the one held in its row.
unfoldable pub held_at : List ℕ → ℕ → ℕ → ℕ → ℕ
held_at row inputs registers v =
    pick (ltb v inputs) v (pick (ltb (v - inputs) registers) (pick (ltb (v - inputs) 32) (get_or row (v - inputs) 0) 0) v)

-- The operands of an operator o, the first at p, and its node; `operand` makes an operand's nodes.
unfoldable pub unary_at : (ℕ → ℕ → List ℕ → Expression) → ℕ → ℕ → ℕ → List ℕ → Expression
unary_at operand o p n l =
    let a = operand p n l in
    made a.answer.next a.answer.count (10 + o) a.answer.node 0 0 a.words

unfoldable pub binary_at : (ℕ → ℕ → List ℕ → Expression) → ℕ → ℕ → ℕ → List ℕ → Expression
binary_at operand o p n l =
    let a = operand p n l in
    let b = operand a.answer.next a.answer.count a.words in
    made b.answer.next b.answer.count (10 + o) a.answer.node b.answer.node 0 b.words

unfoldable pub conditional_at : (ℕ → ℕ → List ℕ → Expression) → ℕ → ℕ → List ℕ → Expression
conditional_at operand p n l =
    let c = operand p n l in
    let a = operand c.answer.next c.answer.count c.words in
    let b = operand a.answer.next a.answer.count a.words in
    made b.answer.next b.answer.count 20 c.answer.node a.answer.node b.answer.node b.words

-- The node with map m at p, by the byte o after the map.
unfoldable pub node_at : (ℕ → ℕ) → (ℕ → ℕ → List ℕ → Expression) → List ℕ → ℕ → ℕ → ℕ → ℕ → List ℕ → Expression
node_at held operand s m o p n l =
    m is 0x02 then expression (expressed (p + 2) (held o) n) l else
    m is 0x0C then made (p + 6) n 1 o (word_of s (p + 2) % 65536) (word_of s (p + 2) / 65536) l else
    m is 0x04 then made (p + 2) n 2 o 0 0 l else
    m is 0x11 then unary_at operand o (p + 2) n l else
    m is 0x31 then binary_at operand o (p + 2) n l else
    m is 0x71 then conditional_at operand (p + 2) n l else
    unmade p n l

-- The expression at p, with so many levels left.
unfoldable pub express_at : (ℕ → ℕ) → ℕ → List ℕ → ℕ → ℕ → List ℕ → Expression
express_at held zero s p n l = unmade p n l
express_at held (suc d) s p n l = node_at held (express_at held d s) s (get_or s p 0) (get_or s (p + 1) 0) p n l
