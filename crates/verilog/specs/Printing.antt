-- The same text over any bytes, as the code prints it; where the sheet was read, it is the module's (proofs/Printing.antt).
use Rattle.std.specs.Prelude.{ℕ, zero, suc, ◌+◌, ◌-◌, ◌*◌, List, [], ◌++◌, length, get_or, ltb, eqb, Bool, true, false, ◌&&◌}
use Rattle.values.specs.Values.{pick, ◌is◌then◌else◌}
use Rattle.values.specs.Edges.{edge_of}
use Rattle.sheet.specs.Reading.{word_of}
use Rattle.pseudocode.specs.Skipping.{argument_count}
use Rattle.writing.specs.Ascii.{ascii}
use Rattle.writing.specs.Numbers.{decimal}
use Rattle.writing.specs.Buffer.{Text, filled, puts}
use Rattle.signs.specs.Signs.{operands, lead, constant_text, unknown_text}
use Rattle.verilog.specs.declared.Printed.{Printed}
use Rattle.verilog.specs.Verilog.{◌&◌, indent, before, edge_text, ports_text, declaration_text, own_name, function_head, function_end}

-- ---- what is shown: a text, and the next place in the sheet

pub record Shown : Type 0 where
  pub next : ℕ
  pub text : List ℕ

abbrev pub shown : ℕ → List ℕ → Shown
shown next text = record { next = next; text = text }

-- A text in front of what is shown.
unfoldable pub behind : List ℕ → Shown → Shown
behind t q = shown q.next (t ++ q.text)

-- ---- what printing leaves: the next place in the sheet, and the buffer

pub record Left : Type 0 where
  pub next : ℕ
  pub text : Text

abbrev pub left : ℕ → Text → Left
left next text = record { next = next; text = text }

-- The code's answer, with the buffer's bytes.
abbrev pub told : Printed → List ℕ → Left
told r bytes = left r.next (filled bytes r.pos)

-- What printing that into a buffer leaves.
unfoldable pub leaves : Text → Shown → Left
leaves t q = left q.next (puts t q.text)

-- ---- operands, and a call's arguments, whose operator is 11 and how many there are

-- What stands in front of an operand, when n are still to come, this one among them.
unfoldable pub lead_at : ℕ → ℕ → List ℕ
lead_at o n = pick (ltb o 11) (lead o n) (before (ascii ", ") (o - 11 - n))

-- n operands of operator o and the closing parenthesis. `operand` shows the one at a place.
unfoldable pub operands_at : (ℕ → Shown) → ℕ → ℕ → ℕ → Shown
operands_at operand o zero p = shown p (ascii ")")
operands_at operand o (suc n) p = behind (lead_at o (suc n) ++ (operand p).text) (operands_at operand o n (operand p).next)

-- What stands in front of the first, by the node's map and the byte after it.
unfoldable pub opening_at : ℕ → ℕ → List ℕ
opening_at m b = m is 0x80 then (ascii "f" & decimal b & ascii "(") else ascii "("

-- ---- a line with nothing from the sheet

unfoldable pub word_at : List ℕ → ℕ → ℕ → Shown
word_at word n p = shown (p + 1) (indent n & word)

-- ---- bodies

-- How a statement is printed, by its map and the byte after it: a sequence whose first part is a wait as 1Ch, one whose first part is a
-- sequence as 2Ch, any other statement as its map.
unfoldable pub shape_of : ℕ → ℕ → ℕ
shape_of m b = m is 0x0C then (b is 0x10 then 0x1C else b is 0x0C then 0x2C else 0x0C) else m

-- How many bodies a shape has: "2 and 3 statements". The wait of 1Ch is no body.
unfoldable pub bodies_of : ℕ → ℕ
bodies_of m =
    m is 0x0C then 2 else
    m is 0x1C then 1 else
    m is 0x2C then 2 else
    m is 0x06 then 1 else
    m is 0x0E then 2 else
    m is 0x46 then 1 else
    m is 0x44 then 1 else
    0

-- Does a body stand without a block of its own, when k bodies were still to come? Both of a sequence do, and the last of 2Ch.
unfoldable pub flat : ℕ → ℕ → Bool
flat m k = m is 0x0C then true else m is 0x2C then eqb k 1 else false

-- The level of a body.
unfoldable pub inner_level : ℕ → ℕ → ℕ → ℕ
inner_level m k n = pick (flat m k) n (n + 1)

-- The end of a block, when k bodies of its statement were still to come.
unfoldable pub end_at : ℕ → ℕ → List ℕ
end_at m k = m is 0x0E then (k is 2 then ascii "end else begin\n" else ascii "end\n") else ascii "end\n"

-- What stands behind a body.
unfoldable pub closing_at : ℕ → ℕ → ℕ → List ℕ
closing_at m k n = pick (flat m k) [] (indent n & end_at m k)

-- k bodies of a statement with shape m, n levels in. `stmt` shows the statement at a level and a place.
unfoldable pub bodies_at : (ℕ → ℕ → Shown) → ℕ → ℕ → ℕ → ℕ → Shown
bodies_at stmt m n zero p = shown p []
bodies_at stmt m n (suc k) p =
    let a = stmt (inner_level m (suc k) n) p in
    behind (a.text ++ closing_at m (suc k) n) (bodies_at stmt m n k a.next)

-- Does the statement at p open with a wait, being a sequence whose first part is one?
unfoldable pub opens_at : List ℕ → ℕ → Bool
opens_at s p = ltb p (length s) && eqb (shape_of (get_or s p 0) (get_or s (p + 1) 0)) 0x1C

-- ---- a place that is within a sheet, or its end for one past it

unfoldable pub inside : List ℕ → ℕ → ℕ
inside s p = pick (ltb (length s) p) (length s) p

-- ---- waits: a sheet s, by the names of its variables

module _ (name : ℕ → List ℕ) (s : List ℕ) where
  -- The pair of a wait at p, which is the wait's kth.
  unfoldable pub term_at : ℕ → ℕ → List ℕ
  term_at k p = before (ascii " or ") k & edge_text (edge_of (get_or s p 0)) & name (get_or s (p + 1) 0)

  -- n pairs of a wait, the first at p.
  unfoldable pub terms_at : ℕ → ℕ → ℕ → List ℕ
  terms_at zero k p = []
  terms_at (suc n) k p = term_at k p & terms_at n (k + 1) (p + 2)

  -- A wait whose map stands at p, and a word behind it.
  unfoldable pub wait_at : List ℕ → ℕ → ℕ → Shown
  wait_at word n p =
      let k = get_or s (p + 1) 0 in
      shown (p + 2 + 2 * k) (indent n & ascii "@(" & terms_at k 0 (p + 2) & word)

  -- n variables from v on, with i inputs and r registers, the first variable's width at q.
  unfoldable pub declarations_at : ℕ → ℕ → ℕ → ℕ → ℕ → List ℕ
  declarations_at i r q zero v = []
  declarations_at i r q (suc n) v = declaration_text name i r v (get_or s (q + v) 0) & declarations_at i r q n (v + 1)

-- ---- how many operands a node has, and their operator, by its map and the byte after it; the functions' definitions stand at ds

module _ (s ds : List ℕ) where
  unfoldable pub count_of : ℕ → ℕ → ℕ
  count_of m b = m is 0x80 then argument_count s ds b else operands b

  unfoldable pub operator_of : ℕ → ℕ → ℕ
  operator_of m b = m is 0x80 then 11 + argument_count s ds b else b

-- ---- the parts of a sheet s whose functions' definitions stand at ds, by the names of its variables

module _ (name : ℕ → List ℕ) (s ds : List ℕ) where
  -- ---- expressions

  -- The node whose map stands at p, with the byte after it: variable, constant, unknown constant, operator or call.
  unfoldable pub node_at : (ℕ → Shown) → ℕ → ℕ → ℕ → Shown
  node_at operand p m b =
      m is 0x02 then shown (p + 2) (name b) else
      m is 0x0C then shown (p + 6) (constant_text b (word_of s (p + 2))) else
      m is 0x04 then shown (p + 2) (unknown_text b) else
      behind (opening_at m b) (operands_at operand (operator_of s ds m b) (count_of s ds m b) (p + 2))

  -- The expression at p, with so many levels left; nothing past the sheet's end.
  unfoldable pub shown_at : ℕ → ℕ → Shown
  shown_at zero p = shown p []
  shown_at (suc d) p = pick (ltb p (length s)) (node_at (shown_at d) p (get_or s p 0) (get_or s (p + 1) 0)) (shown p [])

  -- ---- statements

  -- An assignment whose map stands at p.
  unfoldable pub assign_at : List ℕ → ℕ → ℕ → Shown
  assign_at sign n p =
      let e = shown_at 16 (p + 2) in
      shown e.next (indent n & name (get_or s (p + 1) 0) & sign & e.text & ascii ";\n")

  -- A word, a condition and the beginning of a block.
  unfoldable pub condition_at : List ℕ → ℕ → ℕ → Shown
  condition_at word n p =
      let e = shown_at 16 (p + 1) in
      shown e.next (indent n & word & e.text & ascii ") begin\n")

  -- What stands in front of a statement's first body: of a statement without a body all of it. It stands at p, its shape is m.
  unfoldable pub heading_at : ℕ → ℕ → ℕ → Shown
  heading_at n p m =
      m is 0x00 then word_at (ascii "begin end\n") n p else
      m is 0x03 then assign_at (ascii " = ") n p else
      m is 0x23 then assign_at (ascii " <= ") n p else
      m is 0x0C then shown (p + 1) [] else
      m is 0x1C then wait_at name s (ascii ") begin\n") n (p + 1) else
      m is 0x2C then word_at (ascii "begin\n") n p else
      m is 0x06 then condition_at (ascii "if (") n p else
      m is 0x0E then condition_at (ascii "if (") n p else
      m is 0x46 then condition_at (ascii "while (") n p else
      m is 0x44 then word_at (ascii "forever begin\n") n p else
      m is 0x10 then wait_at name s (ascii ");\n") n p else
      shown p []

  -- The statement at p, n levels in, whose shape is m.
  unfoldable pub form_at : (ℕ → ℕ → Shown) → ℕ → ℕ → ℕ → Shown
  form_at stmt n p m =
      let h = heading_at n p m in
      behind h.text (bodies_at stmt m n (bodies_of m) h.next)

  -- With so many levels left; nothing past the sheet's end.
  unfoldable pub stmt_at : ℕ → ℕ → ℕ → Shown
  stmt_at zero n p = shown p []
  stmt_at (suc d) n p = pick (ltb p (length s)) (form_at (stmt_at d) n p (shape_of (get_or s p 0) (get_or s (p + 1) 0))) (shown p [])

  -- ---- the module's parts

  -- The assignment of wire v, whose expression stands at p.
  unfoldable pub wire_at : ℕ → ℕ → Shown
  wire_at v p =
      let e = shown_at 16 p in
      shown e.next (ascii "  assign " & name v & ascii " = " & e.text & ascii ";\n")

  -- n wires, the first variable v with its expression at p.
  unfoldable pub wires_at : ℕ → ℕ → ℕ → Shown
  wires_at zero v p = shown p []
  wires_at (suc n) v p = behind (wire_at v p).text (wires_at n (v + 1) (wire_at v p).next)

  -- The thread whose statement stands at p: in a block, or behind the wait that it opens with.
  unfoldable pub block_at : ℕ → Shown
  block_at p =
      let a = stmt_at 64 2 p in
      shown a.next (ascii "  always begin\n" & a.text & ascii "  end\n")

  unfoldable pub waiting_at : ℕ → Shown
  waiting_at p =
      let w = wait_at name s (ascii ") begin\n") 0 (p + 1) in
      let a = stmt_at 63 2 w.next in
      shown a.next (ascii "  always " & w.text & a.text & ascii "  end\n")

  unfoldable pub thread_at : ℕ → Shown
  thread_at p = pick (opens_at s p) (waiting_at p) (block_at p)

  -- n threads, the first one's statement at p.
  unfoldable pub threads_at : ℕ → ℕ → Shown
  threads_at zero p = shown p []
  threads_at (suc n) p = behind (thread_at p).text (threads_at n (thread_at p).next)

-- ---- functions: the definition of function n at p; nothing past the sheet's end

module _ (s ds : List ℕ) where
  -- With k parameters.
  unfoldable pub definition_of : ℕ → ℕ → ℕ → Shown
  definition_of n p k =
      let a = stmt_at (own_name k) s ds 64 2 (p + 2 + k) in
      shown a.next
      (function_head n (get_or s (p + 1 + k) 0)
      & declarations_at (own_name k) s k 1 (p + 1) (k + 1) 0
      & ascii "  begin\n"
      & a.text
      & function_end n)

  unfoldable pub definition_at : ℕ → ℕ → Shown
  definition_at n p = pick (ltb p (length s)) (definition_of n p (get_or s p 0)) (shown p [])

  -- m functions, the first function n with its definition at p.
  unfoldable pub definitions_at : ℕ → ℕ → ℕ → Shown
  definitions_at zero n p = shown p []
  definitions_at (suc m) n p = behind (definition_at n p).text (definitions_at m (n + 1) (definition_at n p).next)

-- ---- the module with i inputs, r registers, w wires, t threads and f functions, the first variable's width at q

module _ (name : ℕ → List ℕ) (s ds : List ℕ) where
  unfoldable pub module_at : ℕ → ℕ → ℕ → ℕ → ℕ → ℕ → List ℕ
  module_at i r w t f q =
      let n = i + r + w in
      let fs = definitions_at s ds f 0 (q + n) in
      let es = wires_at name s ds w (i + r) fs.next in
      ascii "module walbryts (" & ports_text name i 0 & ascii ");\n"
      & declarations_at name s i r q n 0
      & fs.text
      & es.text
      & (threads_at name s ds t es.next).text
      & ascii "endmodule\n"
