-- The printed module has the tokens that specs/Lexed.antt gives it: part by part, each in front of what follows. Assumes nothing.
use mathlib.Core.Path.{◌≡◌, refl, ap, ◌∙◌}
use mathlib.Core.Bool.{Bool, true, false}
use mathlib.Core.List.{List, [], ◌∷◌, ◌++◌, append_assoc, append-nil}
use Prim.Native.Nat.{ℕ, zero, suc, ◌+◌, ◌-◌, ◌^◌, ◌≤◌, ◌<◌}
use native.Mathlib.Omega.{arith}
use borrow.Author.Tests.{eqb-true, eqb-false, ne_eqb}
use lib.Dec.{ltb, eqb}
use lib.Pow.{pow_mono}
use Rattle.values.specs.Values.{pick}
use Rattle.values.specs.declared.Edge.{Edge}
use Rattle.values.specs.declared.Edge.TheVariants.{Change, Posedge, Negedge}
use Rattle.sheet.specs.declared.EdgeTerm.{EdgeTerm}
use Rattle.sheet.specs.Expression.{Expr, variable, constant, unknown, unary, binary, conditional, call, Scope}
use Rattle.sheet.specs.Statement.{Stmt, empty, assign, later, sequence, if_then, if_else, while, forever, wait}
use Rattle.sheet.specs.Module.{Module}
use Rattle.encoding.specs.WellFormed.{Between, WellTyped, IsAssignment, WellBuilt, AreWidths, WiresFit, ThreadsFit, WellFormed}
use Rattle.encoding.proofs.Encoding.{read-encode}
use Rattle.writing.specs.Ascii.{ascii}
use Rattle.writing.specs.Numbers.{decimal}
use Rattle.naming.specs.Naming.{plain_name}
use Rattle.signs.specs.Signs.{sign, constant_text, unknown_text}
use Rattle.verilog.specs.Verilog.{indent, before, edge_text, range_text, direction_text, Front, waiting, nesting, single, front, expr_text, term_text, terms_text, sequence_text, stmt_text, port_text, ports_text, wires_text, opening, remainder, opened_text, thread_text, threads_text, declaration_text, declarations_text, functions_text, module_text, verilog_text}
use Rattle.verilog_tokens.specs.declared.Class.TheVariants.{Word, Decimal}
use Rattle.verilog_tokens.specs.Characters.{span}
use Rattle.verilog_lexed.specs.Lexed.{From, marks, counts, spaced, between, sign_tokens, or_tokens, comma_tokens, edge_tokens, range_tokens, direction_tokens, closed, expr_tokens, term_tokens, terms_tokens, sequence_tokens, stmt_tokens, port_tokens, ports_tokens, wires_tokens, opened_tokens, thread_tokens, threads_tokens, declaration_tokens, declarations_tokens, module_tokens, nothing, tokens_of}
use Rattle.verilog_lexed.specs.Claims.{PrintedTokens, ReadTokens}
use Rattle.verilog_lexed.proofs.Steps.{Reads, reads-from, reads_none, reads-tokens}
use Rattle.verilog_lexed.proofs.Pieces.{name-reads, count-reads, value-reads, unknown-reads}
use Rattle.verilog_lexed.proofs.Words

-- ---- by cases on a number

-- A number from n on is n, or from n + 1 on.
at : (P : ℕ → Type 0) (o n : ℕ) → n ≤ o → P n → (n + 1 ≤ o → P o) → P o
at P o n l h g = by (eqb o n) refl
  where
    by : (t : Bool) → eqb o n ≡ t → P o
    by true e = rw (eqb-true o n e) h
    by false e = let z = eqb-false o n e in g (omega arith)

one_of_two : (P : ℕ → Type 0) (o : ℕ) → Between 1 2 o → P 1 → P 2 → P o
one_of_two P o b p1 p2 = at P o 1 b.0 p1 (λ l. at P o 2 l p2 (λ m. absurd (omega (arith, b.1, m))))

three-to-nine : (P : ℕ → Type 0) (o : ℕ) → Between 3 9 o → P 3 → P 4 → P 5 → P 6 → P 7 → P 8 → P 9 → P o
three-to-nine P o b p3 p4 p5 p6 p7 p8 p9 =
    at P o 3 b.0 p3 (λ l4. at P o 4 l4 p4 (λ l5. at P o 5 l5 p5 (λ l6. at P o 6 l6 p6 (λ l7. at P o 7 l7 p7 (λ l8. at P o 8 l8 p8
    (λ l9. at P o 9 l9 p9 (λ m. absurd (omega (arith, b.1, m)))))))))

-- ---- where the printer's words stop a name, a number or a value

module _ (s : List ℕ) where
  close-ends : Words.Ends (ascii ")" ++ s)
  unfolding ascii
  close-ends = Words.ends_close s

  opened-ends : Words.Ends (ascii ") begin\n" ++ s)
  unfolding ascii
  opened-ends = Words.ends_close (ascii " begin\n" ++ s)

  semicolon-ends : Words.Ends (ascii ";\n" ++ s)
  unfolding ascii
  semicolon-ends = Words.ends-semicolon (10 ∷ s)

  ask-ends : Words.Ends (ascii " ? " ++ s)
  unfolding ascii
  ask-ends = Words.ends-blank (ascii "? " ++ s)

  otherwise-ends : Words.Ends (ascii " : " ++ s)
  unfolding ascii
  otherwise-ends = Words.ends-blank (ascii ": " ++ s)

  becomes-ends : Words.Ends (ascii " = " ++ s)
  unfolding ascii
  becomes-ends = Words.ends-blank (ascii "= " ++ s)

  later-ends : Words.Ends (ascii " <= " ++ s)
  unfolding ascii
  later-ends = Words.ends-blank (ascii "<= " ++ s)

  or-ends : Words.Ends (ascii " or " ++ s)
  unfolding ascii
  or-ends = Words.ends-blank (ascii "or " ++ s)

  comma-stops : span Word (ascii ", " ++ s) ≡ 0
  unfolding ascii
  comma-stops = Words.stops-comma (32 ∷ s)

  wait-ends : Words.Ends (ascii ");\n" ++ s)
  unfolding ascii
  wait-ends = Words.ends_close (ascii ";\n" ++ s)

  value-stops : span Decimal (ascii "'d" ++ s) ≡ 0
  unfolding ascii
  value-stops = Words.stops-quote (100 ∷ s)

  unknown-stops : span Decimal (ascii "'bx" ++ s) ≡ 0
  unfolding ascii
  unknown-stops = Words.stops-quote (ascii "bx" ++ s)

  range-stops : span Decimal (ascii ":0] " ++ s) ≡ 0
  unfolding ascii
  range-stops = Words.stops-colon (ascii "0] " ++ s)

-- ---- operators

unary-reads : (s : List ℕ) (k : From) (o : ℕ) → Between 1 2 o → Reads s k → Reads (sign o ++ s) (sign_tokens o k)
unfolding sign sign_tokens
unary-reads s k o b h =
    one_of_two (λ o. Reads (sign o ++ s) (sign_tokens o k)) o b (Words.tilde-reads h) (Words.bang-reads h)

binary-reads : (s : List ℕ) (k : From) (o : ℕ) → Between 3 9 o → Reads s k → Reads (sign o ++ s) (sign_tokens o k)
unfolding sign sign_tokens
binary-reads s k o b h =
    three-to-nine (λ o. Reads (sign o ++ s) (sign_tokens o k)) o b (Words.and-reads h) (Words.bar-reads h) (Words.caret-reads h)
    (Words.plus-reads h) (Words.minus-reads h) (Words.equal-reads h) (Words.less-reads h)

binary-ends : (s : List ℕ) (o : ℕ) → Between 3 9 o → Words.Ends (sign o ++ s)
unfolding sign ascii
binary-ends s o b =
    three-to-nine (λ o. Words.Ends (sign o ++ s)) o b (Words.ends-blank (ascii "& " ++ s)) (Words.ends-blank (ascii "| " ++ s))
    (Words.ends-blank (ascii "^ " ++ s)) (Words.ends-blank (ascii "+ " ++ s)) (Words.ends-blank (ascii "- " ++ s))
    (Words.ends-blank (ascii "== " ++ s)) (Words.ends-blank (ascii "< " ++ s))

-- ---- numbers

-- A width, and a value below 2 ^ width.
narrow : (w : ℕ) → Between 1 32 w → w < 2 ^ 64
narrow w b = omega (arith, b.1)

small : (w v : ℕ) → Between 1 32 w → v < 2 ^ w → v < 2 ^ 64
small w v b h = omega (arith, h, pow_mono {i = w} {j = 64} (omega (arith, b.1)))

module _ (i r : ℕ) where
  -- ---- expressions: without functions there is no call

  expr-reads : (sc : Scope) → sc.declared ≡ 0 → (d : ℕ) (e : Expr) (w : ℕ) → WellTyped sc d e w → {s : List ℕ} {k : From} → Words.Ends s → Reads s k
      → Reads (expr_text (plain_name i r) e ++ s) (expr_tokens (plain_name i r) e k)
  unfolding WellTyped expr_text expr_tokens constant_text unknown_text
  expr-reads sc none zero e w h g x = absurd h
  expr-reads sc none (suc d) (variable v) w h g x = name-reads i r v g.word x
  expr-reads sc none (suc d) (constant j v) w h g x =
      reads-from (count-reads j (narrow j h.0) (value-stops _) (value-reads v (small j v h.0 h.1) g.decimal x))
      (simp append_assoc)
  expr-reads sc none (suc d) (unknown j) w h g x =
      reads-from (count-reads j (narrow j h.0) (unknown-stops _) (unknown-reads g.binary x)) (simp append_assoc)
  expr-reads sc none (suc d) (unary o j a) w h g x =
      reads-from
      (Words.open-reads (unary-reads _ _ o h.0
      (expr-reads sc none d a j h.1 (close-ends _) (Words.close-reads x))))
      (simp append_assoc)
  expr-reads sc none (suc d) (binary o j a b) w h g x =
      reads-from
      (Words.open-reads (expr-reads sc none d a j h.1 (binary-ends _ o h.0)
      (binary-reads _ _ o h.0
      (expr-reads sc none d b j h.2 (close-ends _) (Words.close-reads x)))))
      (simp append_assoc)
  expr-reads sc none (suc d) (conditional c a b) w h g x =
      reads-from
      (Words.open-reads (expr-reads sc none d c h.0.0 h.0.1 (ask-ends _)
      (Words.ask-reads (expr-reads sc none d a w h.1 (otherwise-ends _)
      (Words.otherwise-reads (expr-reads sc none d b w h.2 (close-ends _) (Words.close-reads x)))))))
      (simp append_assoc)
  expr-reads sc none (suc d) (call n j ys b) w h g x = absurd (omega (arith, none, h.0))

  -- ---- waits

  or-reads : (j : ℕ) {s : List ℕ} {k : From} → Reads s k → Reads (before (ascii " or ") j ++ s) (or_tokens j k)
  unfolding before or_tokens
  or-reads j {s} {k} h = by (eqb j 0)
    where
      by : (t : Bool) → Reads (pick t [] (ascii " or ") ++ s) (pick t k (between "or" k))
      by true = h
      by false = Words.or_word h

  edge-reads : (e : Edge) {s : List ℕ} {k : From} → Reads s k → Reads (edge_text e ++ s) (edge_tokens e k)
  unfolding edge_text edge_tokens
  edge-reads Change h = h
  edge-reads Posedge h = Words.posedge-reads h
  edge-reads Negedge h = Words.negedge-reads h

  terms-stop : (j : ℕ) (ts : List EdgeTerm) (s : List ℕ) → span Word s ≡ 0 → span Word (terms_text (plain_name i r) (j + 1) ts ++ s) ≡ 0
  unfolding terms_text term_text before
  terms-stop j [] s h = h
  terms-stop j (t ∷ ts) s h =
      rw (ne_eqb (j + 1) 0 (omega arith))
      (ap (span Word) (simp append_assoc)
      ∙ (or-ends (edge_text t.edge ++ (plain_name i r t.variable ++ (terms_text (plain_name i r) (j + 1 + 1) ts ++ s)))).word)

  terms-reads : (j : ℕ) (ts : List EdgeTerm) {s : List ℕ} {k : From} → span Word s ≡ 0 → Reads s k
      → Reads (terms_text (plain_name i r) j ts ++ s) (terms_tokens (plain_name i r) j ts k)
  unfolding terms_text term_text terms_tokens term_tokens
  terms-reads j [] h x = x
  terms-reads j (t ∷ ts) {s} h x =
      reads-from
      (or-reads j (edge-reads t.edge (name-reads i r t.variable (terms-stop j ts s h) (terms-reads (j + 1) ts h x))))
      (simp append_assoc)

  -- ---- statements

  closed-reads : (n : ℕ) {s : List ℕ} {k : From} → Reads s k → Reads (indent n ++ (ascii "end\n" ++ s)) (closed n k)
  unfolding closed
  closed-reads n h = Words.indent-reads n (Words.end-line-reads h)

  -- What is printed in front of any text has these tokens in front of its.
  abbrev Prints : List ℕ → (From → From) → Type 0
  Prints text made = (s : List ℕ) (k : From) → Reads s k → Reads (text ++ s) (made k)

  sequence-reads : (n : ℕ) (f : Front) (a b : ℕ → List ℕ) (x y : ℕ → From → From) → ((l : ℕ) → Prints (a l) (x l))
      → ((l : ℕ) → Prints (b l) (y l))
      → Prints (sequence_text (plain_name i r) n f a b) (sequence_tokens (plain_name i r) n f x y)
  unfolding sequence_text sequence_tokens
  sequence-reads n (waiting ts) a b x y f g s k h =
      reads-from
      (Words.indent-reads n (Words.at-word (terms-reads 0 ts (opened-ends _).word
      (Words.opened-word (g (n + 1) _ _ (closed-reads n h))))))
      (simp append_assoc)
  sequence-reads n nesting a b x y f g s k h =
      reads-from (Words.indent-reads n (Words.begin-line-reads (f (n + 1) _ _ (closed-reads n (g n s k h))))) (simp append_assoc)
  sequence-reads n single a b x y f g s k h = reads-from (f n _ _ (g n s k h)) (simp append_assoc)

  stmt-reads : (c : Scope) → c.declared ≡ 0 → (d : ℕ) (b : Stmt Expr) → WellBuilt c d b → (n : ℕ)
      → Prints (stmt_text (plain_name i r) n b) (stmt_tokens (plain_name i r) n b)
  unfolding WellBuilt IsAssignment stmt_text stmt_tokens
  stmt-reads c none zero b h n s k x = absurd h
  stmt-reads c none (suc d) empty h n s k x = reads-from (Words.indent-reads n (Words.empty-word x)) (simp append_assoc)
  stmt-reads c none (suc d) (assign t e) h n s k x =
      reads-from
      (Words.indent-reads n (name-reads i r t (becomes-ends _).word (Words.becomes-reads
      (expr-reads c none 16 e _ h.1 (semicolon-ends _) (Words.ended-word x)))))
      (simp append_assoc)
  stmt-reads c none (suc d) (later t e) h n s k x =
      reads-from
      (Words.indent-reads n (name-reads i r t (later-ends _).word (Words.later-reads
      (expr-reads c none 16 e _ h.1 (semicolon-ends _) (Words.ended-word x)))))
      (simp append_assoc)
  stmt-reads c none (suc d) (sequence a b) h n s k x =
      sequence-reads n (front a) _ _ _ _ (λ l. stmt-reads c none d a h.0 l) (λ l. stmt-reads c none d b h.1 l) s k x
  stmt-reads c none (suc d) (if_then e a) h n s k x =
      reads-from
      (Words.indent-reads n (Words.if_word (expr-reads c none 16 e h.0.0 h.0.1 (opened-ends _)
      (Words.opened-word (stmt-reads c none d a h.1 (n + 1) _ _ (closed-reads n x))))))
      (simp append_assoc)
  stmt-reads c none (suc d) (if_else e a b) h n s k x =
      reads-from
      (Words.indent-reads n (Words.if_word (expr-reads c none 16 e h.0.0 h.0.1 (opened-ends _)
      (Words.opened-word (stmt-reads c none d a h.1 (n + 1) _ _ (Words.indent-reads n (Words.else-word
      (stmt-reads c none d b h.2 (n + 1) _ _ (closed-reads n x)))))))))
      (simp append_assoc)
  stmt-reads c none (suc d) (while e a) h n s k x =
      reads-from
      (Words.indent-reads n (Words.while-word (expr-reads c none 16 e h.0.0 h.0.1 (opened-ends _)
      (Words.opened-word (stmt-reads c none d a h.1 (n + 1) _ _ (closed-reads n x))))))
      (simp append_assoc)
  stmt-reads c none (suc d) (forever a) h n s k x =
      reads-from (Words.indent-reads n (Words.forever-word (stmt-reads c none d a h (n + 1) _ _ (closed-reads n x)))) (simp append_assoc)
  stmt-reads c none (suc d) (wait ts) h n s k x =
      reads-from (Words.indent-reads n (Words.at-word (terms-reads 0 ts (wait-ends _).word (Words.wait-word x)))) (simp append_assoc)

  -- ---- the module's parts

  comma-reads : (v : ℕ) {s : List ℕ} {k : From} → Reads s k → Reads (before (ascii ", ") v ++ s) (comma_tokens v k)
  unfolding before comma_tokens
  comma-reads v {s} {k} h = by (eqb v 0)
    where
      by : (t : Bool) → Reads (pick t [] (ascii ", ") ++ s) (pick t k (spaced "," k))
      by true = h
      by false = Words.comma-reads h

  ports-stop : (n v : ℕ) (s : List ℕ) → span Word s ≡ 0 → span Word (ports_text (plain_name i r) n (v + 1) ++ s) ≡ 0
  unfolding ports_text port_text before
  ports-stop zero v s h = h
  ports-stop (suc n) v s h =
      rw (ne_eqb (v + 1) 0 (omega arith))
      (ap (span Word) (simp append_assoc) ∙ comma-stops (plain_name i r (v + 1) ++ (ports_text (plain_name i r) n (v + 1 + 1) ++ s)))

  ports-reads : (n v : ℕ) {s : List ℕ} {k : From} → span Word s ≡ 0 → Reads s k
      → Reads (ports_text (plain_name i r) n v ++ s) (ports_tokens (plain_name i r) n v k)
  unfolding ports_text port_text ports_tokens port_tokens
  ports-reads zero v h x = x
  ports-reads (suc n) v {s} h x =
      reads-from (comma-reads v (name-reads i r v (ports-stop n v s h) (ports-reads n (v + 1) h x))) (simp append_assoc)

  wires-reads : (sc : Scope) → sc.declared ≡ 0 → (v : ℕ) (es : List Expr) → WiresFit sc v es
      → Prints (wires_text (plain_name i r) v es) (wires_tokens (plain_name i r) v es)
  unfolding WiresFit wires_text wires_tokens
  wires-reads sc none v [] h s k x = x
  wires-reads sc none v (e ∷ es) h s k x =
      reads-from
      (Words.assign_word (name-reads i r v (becomes-ends _).word (Words.becomes-reads
      (expr-reads sc none 16 e _ h.0 (semicolon-ends _) (Words.ended-word (wires-reads sc none (v + 1) es h.1 s k x))))))
      (simp append_assoc)

  opened-reads : (f : Front) (a b : ℕ → List ℕ) (x y : ℕ → From → From) → Prints (a 2) (x 2) → Prints (b 2) (y 2)
      → Prints (opened_text (plain_name i r) f a b) (opened_tokens (plain_name i r) f x y)
  unfolding opened_text opened_tokens
  opened-reads (waiting ts) a b x y f g s k h =
      reads-from
      (Words.thread-word (Words.at-word (terms-reads 0 ts (opened-ends _).word (Words.opened-word (g _ _ (Words.thread-end h))))))
      (simp append_assoc)
  opened-reads nesting a b x y f g s k h = reads-from (Words.always-word (f _ _ (Words.thread-end h))) (simp append_assoc)
  opened-reads single a b x y f g s k h = reads-from (Words.always-word (f _ _ (Words.thread-end h))) (simp append_assoc)

  remainder-built : (c : Scope) (d : ℕ) (b : Stmt Expr) → WellBuilt c (suc (suc d)) b → WellBuilt c (suc d) (remainder b)
  unfolding WellBuilt remainder
  remainder-built c d empty h = tt
  remainder-built c d (assign t e) h = tt
  remainder-built c d (later t e) h = tt
  remainder-built c d (sequence a b) h = h.1
  remainder-built c d (if_then e a) h = tt
  remainder-built c d (if_else e a b) h = tt
  remainder-built c d (while e a) h = tt
  remainder-built c d (forever a) h = tt
  remainder-built c d (wait ts) h = tt

  thread-reads : (c : Scope) → c.declared ≡ 0 → (b : Stmt Expr) → WellBuilt c 64 b → Prints (thread_text (plain_name i r) b) (thread_tokens (plain_name i r) b)
  unfolding thread_text thread_tokens
  thread-reads c none b h =
      opened-reads (opening b) _ _ _ _ (stmt-reads c none 64 b h 2) (stmt-reads c none 63 (remainder b) (remainder-built c 62 b h) 2)

  threads-reads : (c : Scope) → c.declared ≡ 0 → (bs : List (Stmt Expr)) → ThreadsFit c bs
      → Prints (threads_text (plain_name i r) bs) (threads_tokens (plain_name i r) bs)
  unfolding ThreadsFit threads_text threads_tokens
  threads-reads c none [] h s k x = x
  threads-reads c none (b ∷ bs) h s k x = reads-from (thread-reads c none b h.0 _ _ (threads-reads c none bs h.2 s k x)) (simp append_assoc)

  direction-reads : (v : ℕ) {s : List ℕ} {k : From} → Reads s k → Reads (direction_text i r v ++ s) (direction_tokens i r v k)
  unfolding direction_text direction_tokens
  direction-reads v {s} {k} h = by (ltb v i) (ltb v (i + r))
    where
      by : (t u : Bool) → Reads (pick t (ascii "input ") (pick u (ascii "reg ") (ascii "wire ")) ++ s)
          (pick t (spaced "input" k) (pick u (spaced "reg" k) (spaced "wire" k)))
      by true u = Words.input-reads h
      by false true = Words.reg-reads h
      by false false = Words.wire-reads h

  range-reads : (w : ℕ) → Between 1 32 w → {s : List ℕ} {k : From} → Reads s k → Reads (range_text w ++ s) (range_tokens w k)
  unfolding range_text range_tokens
  range-reads w b {s} {k} h = by (eqb w 1)
    where
      by : (t : Bool) → Reads (pick t [] (ascii "[" ++ (decimal (w - 1) ++ ascii ":0] ")) ++ s)
          (pick t k (marks "[" (counts (w - 1) (marks ":" (counts 0 (spaced "]" k))))))
      by true = h
      by false =
          reads-from
          (Words.bracket-reads (count-reads (w - 1) (omega (arith, narrow w b)) (range-stops _) (Words.range-word h)))
          (simp append_assoc)

  declarations-reads : (v : ℕ) (ws : List ℕ) → AreWidths ws
      → Prints (declarations_text (plain_name i r) i r v ws) (declarations_tokens (plain_name i r) i r v ws)
  unfolding AreWidths declarations_text declaration_text declarations_tokens declaration_tokens
  declarations-reads v [] h s k x = x
  declarations-reads v (w ∷ ws) h s k x =
      reads-from
      (Words.blanks-word (direction-reads v (range-reads w h.0 (name-reads i r v (semicolon-ends _).word
      (Words.ended-word (declarations-reads (v + 1) ws h.1 s k x))))))
      (simp append_assoc)

-- ---- the whole text

module-reads : (m : Module Expr) → WellFormed m
    → Reads (verilog_text m) (module_tokens (plain_name m.scope.inputs m.scope.registers) m nothing)
unfolding verilog_text functions_text module_text module_tokens nothing
module-reads m h =
    let c = m.scope in
    let i = c.inputs in
    let r = c.registers in
    let none = h.plain.0 in
    rw h.plain.1
    (reads-from
    (Words.module-word (ports-reads i r i 0 (wait-ends _).word (Words.wait-word
    (declarations-reads i r 0 c.widths h.widths _ _
    (wires-reads i r c none (i + r) m.wires h.wired _ _
    (threads-reads i r c none m.threads h.threaded _ _
    (Words.endmodule-reads reads_none)))))))
    (simp append-nil))

pub printed-tokens : PrintedTokens
unfolding PrintedTokens tokens_of
printed-tokens m h = reads-tokens (module-reads m h)

pub read-tokens : ReadTokens
unfolding PrintedTokens ReadTokens
read-tokens s b m e = printed-tokens m (read-encode s b e).0
