-- The printer's words in front of others, each by its pieces; where an expression may end. Assumes nothing.
use mathlib.Core.Path.{◌≡◌, refl}
use mathlib.Core.List.{List, [], ◌∷◌, ◌++◌}
use Prim.Native.Nat.{ℕ, ◌+◌, ◌*◌}
use native.Mathlib.Omega.{arith}
use Rattle.hextext.specs.Characters.{digit_of}
use Rattle.writing.specs.Ascii.{ascii}
use Rattle.writing.specs.Numbers.{digits, decimal}
use Rattle.naming.specs.Naming.{same_text}
use Rattle.verilog.specs.Verilog.{indent}
use Rattle.verilog_tokens.specs.declared.Class.TheVariants.{Word, Decimal, Binary}
use Rattle.verilog_tokens.specs.Characters.{is_newline, is_space, is_letter, is_below, is_x, is_z, is_named, is_underscore, is_digit, in_class, span, every}
use Rattle.verilog_tokens.specs.Words.{keywords, is_among, is_keyword, signs, opens_with, first_of}
use Rattle.verilog_tokens.specs.Tokens.{opening}
use Rattle.verilog_lexed.specs.Lexed.{From, blanks, marks, names, counts, spaced, between, indented, ended, opened, closed}
use Rattle.verilog_lexed.proofs.Steps.{Reads, reads-blank, reads-blanks}
use Rattle.verilog_lexed.proofs.Pieces.{worded, keyword-reads, named-reads, sign_reads, count-reads}

-- ---- where a name, a number and an unknown value end

pub record Ends (s : List ℕ) : Type 0 where
  pub word : span Word s ≡ 0
  pub decimal : span Decimal s ≡ 0
  pub binary : span Binary s ≡ 0

module _ (s : List ℕ) where
  pub ends-blank : Ends (32 ∷ s)
  unfolding span in_class is_named is_letter is_below digit_of is_underscore is_digit is_x is_z
  ends-blank = record { word = refl; decimal = refl; binary = refl }

  pub ends_close : Ends (41 ∷ s)
  unfolding span in_class is_named is_letter is_below digit_of is_underscore is_digit is_x is_z
  ends_close = record { word = refl; decimal = refl; binary = refl }

  pub ends-semicolon : Ends (59 ∷ s)
  unfolding span in_class is_named is_letter is_below digit_of is_underscore is_digit is_x is_z
  ends-semicolon = record { word = refl; decimal = refl; binary = refl }

  pub stops-comma : span Word (44 ∷ s) ≡ 0
  unfolding span in_class is_named is_letter is_below digit_of
  stops-comma = refl

  pub stops-quote : span Decimal (39 ∷ s) ≡ 0
  unfolding span in_class is_below digit_of is_underscore
  stops-quote = refl

  pub stops-colon : span Decimal (58 ∷ s) ≡ 0
  unfolding span in_class is_below digit_of is_underscore
  stops-colon = refl

  pub stops-bracket : span Decimal (93 ∷ s) ≡ 0
  unfolding span in_class is_below digit_of is_underscore
  stops-bracket = refl

-- ---- indentation

pub indent-reads : {s : List ℕ} {k : From} (n : ℕ) → Reads s k → Reads (indent n ++ s) (indented n k)
unfolding indent indented
indent-reads n h = reads-blanks (2 * n) h

module _ {s : List ℕ} {k : From} (h : Reads s k) where
  -- ---- signs

  pub open-reads : Reads (ascii "(" ++ s) (marks "(" k)
  unfolding ascii marks blanks spaced between opening is_letter is_below digit_of is_space is_newline first_of signs opens_with
  open-reads = sign_reads 40 [] refl refl refl refl h

  pub close-reads : Reads (ascii ")" ++ s) (marks ")" k)
  unfolding ascii marks blanks spaced between opening is_letter is_below digit_of is_space is_newline first_of signs opens_with
  close-reads = sign_reads 41 [] refl refl refl refl h

  pub bracket-reads : Reads (ascii "[" ++ s) (marks "[" k)
  unfolding ascii marks blanks spaced between opening is_letter is_below digit_of is_space is_newline first_of signs opens_with
  bracket-reads = sign_reads 91 [] refl refl refl refl h

  pub colon-reads : Reads (ascii ":" ++ s) (marks ":" k)
  unfolding ascii marks blanks spaced between opening is_letter is_below digit_of is_space is_newline first_of signs opens_with
  colon-reads = sign_reads 58 [] refl refl refl refl h

  pub at_reads : Reads (ascii "@" ++ s) (marks "@" k)
  unfolding ascii marks blanks spaced between opening is_letter is_below digit_of is_space is_newline first_of signs opens_with
  at_reads = sign_reads 64 [] refl refl refl refl h

  pub tilde-reads : Reads (ascii "~" ++ s) (marks "~" k)
  unfolding ascii marks blanks spaced between opening is_letter is_below digit_of is_space is_newline first_of signs opens_with
  tilde-reads = sign_reads 126 [] refl refl refl refl h

  pub bang-reads : Reads (ascii "!" ++ s) (marks "!" k)
  unfolding ascii marks blanks spaced between opening is_letter is_below digit_of is_space is_newline first_of signs opens_with
  bang-reads = sign_reads 33 [] refl refl refl refl h

  pub semicolon-reads : Reads (ascii ";\n" ++ s) (spaced ";" k)
  unfolding ascii marks blanks spaced between opening is_letter is_below digit_of is_space is_newline first_of signs opens_with
  semicolon-reads = sign_reads 59 [] refl refl refl refl (reads-blank 10 refl h)

  pub comma-reads : Reads (ascii ", " ++ s) (spaced "," k)
  unfolding ascii marks blanks spaced between opening is_letter is_below digit_of is_space is_newline first_of signs opens_with
  comma-reads = sign_reads 44 [] refl refl refl refl (reads-blank 32 refl h)

  pub unbracket-reads : Reads (ascii "] " ++ s) (spaced "]" k)
  unfolding ascii marks blanks spaced between opening is_letter is_below digit_of is_space is_newline first_of signs opens_with
  unbracket-reads = sign_reads 93 [] refl refl refl refl (reads-blank 32 refl h)

  pub closed-reads : Reads (ascii ") " ++ s) (spaced ")" k)
  unfolding ascii marks blanks spaced between opening is_letter is_below digit_of is_space is_newline first_of signs opens_with
  closed-reads = sign_reads 41 [] refl refl refl refl (reads-blank 32 refl h)

  pub and-reads : Reads (ascii " & " ++ s) (between "&" k)
  unfolding ascii marks blanks spaced between opening is_letter is_below digit_of is_space is_newline first_of signs opens_with
  and-reads = reads-blank 32 refl (sign_reads 38 [] refl refl refl refl (reads-blank 32 refl h))

  pub bar-reads : Reads (ascii " | " ++ s) (between "|" k)
  unfolding ascii marks blanks spaced between opening is_letter is_below digit_of is_space is_newline first_of signs opens_with
  bar-reads = reads-blank 32 refl (sign_reads 124 [] refl refl refl refl (reads-blank 32 refl h))

  pub caret-reads : Reads (ascii " ^ " ++ s) (between "^" k)
  unfolding ascii marks blanks spaced between opening is_letter is_below digit_of is_space is_newline first_of signs opens_with
  caret-reads = reads-blank 32 refl (sign_reads 94 [] refl refl refl refl (reads-blank 32 refl h))

  pub plus-reads : Reads (ascii " + " ++ s) (between "+" k)
  unfolding ascii marks blanks spaced between opening is_letter is_below digit_of is_space is_newline first_of signs opens_with
  plus-reads = reads-blank 32 refl (sign_reads 43 [] refl refl refl refl (reads-blank 32 refl h))

  pub minus-reads : Reads (ascii " - " ++ s) (between "-" k)
  unfolding ascii marks blanks spaced between opening is_letter is_below digit_of is_space is_newline first_of signs opens_with
  minus-reads = reads-blank 32 refl (sign_reads 45 [] refl refl refl refl (reads-blank 32 refl h))

  pub equal-reads : Reads (ascii " == " ++ s) (between "==" k)
  unfolding ascii marks blanks spaced between opening is_letter is_below digit_of is_space is_newline first_of signs opens_with
  equal-reads = reads-blank 32 refl (sign_reads 61 (61 ∷ []) refl refl refl refl (reads-blank 32 refl h))

  pub less-reads : Reads (ascii " < " ++ s) (between "<" k)
  unfolding ascii marks blanks spaced between opening is_letter is_below digit_of is_space is_newline first_of signs opens_with
  less-reads = reads-blank 32 refl (sign_reads 60 [] refl refl refl refl (reads-blank 32 refl h))

  pub ask-reads : Reads (ascii " ? " ++ s) (between "?" k)
  unfolding ascii marks blanks spaced between opening is_letter is_below digit_of is_space is_newline first_of signs opens_with
  ask-reads = reads-blank 32 refl (sign_reads 63 [] refl refl refl refl (reads-blank 32 refl h))

  pub otherwise-reads : Reads (ascii " : " ++ s) (between ":" k)
  unfolding ascii marks blanks spaced between opening is_letter is_below digit_of is_space is_newline first_of signs opens_with
  otherwise-reads = reads-blank 32 refl (sign_reads 58 [] refl refl refl refl (reads-blank 32 refl h))

  pub becomes-reads : Reads (ascii " = " ++ s) (between "=" k)
  unfolding ascii marks blanks spaced between opening is_letter is_below digit_of is_space is_newline first_of signs opens_with
  becomes-reads = reads-blank 32 refl (sign_reads 61 [] refl refl refl refl (reads-blank 32 refl h))

  pub later-reads : Reads (ascii " <= " ++ s) (between "<=" k)
  unfolding ascii marks blanks spaced between opening is_letter is_below digit_of is_space is_newline first_of signs opens_with
  later-reads = reads-blank 32 refl (sign_reads 60 (61 ∷ []) refl refl refl refl (reads-blank 32 refl h))

  -- ---- keywords

  pub module-reads : Reads (ascii "module " ++ s) (spaced "module" k)
  unfolding ascii marks blanks spaced between worded is_letter is_below digit_of is_named is_space is_newline in_class every is_keyword is_among keywords same_text
  module-reads = keyword-reads (ascii "module") 32 refl refl refl refl h

  pub input-reads : Reads (ascii "input " ++ s) (spaced "input" k)
  unfolding ascii marks blanks spaced between worded is_letter is_below digit_of is_named is_space is_newline in_class every is_keyword is_among keywords same_text
  input-reads = keyword-reads (ascii "input") 32 refl refl refl refl h

  pub reg-reads : Reads (ascii "reg " ++ s) (spaced "reg" k)
  unfolding ascii marks blanks spaced between worded is_letter is_below digit_of is_named is_space is_newline in_class every is_keyword is_among keywords same_text
  reg-reads = keyword-reads (ascii "reg") 32 refl refl refl refl h

  pub wire-reads : Reads (ascii "wire " ++ s) (spaced "wire" k)
  unfolding ascii marks blanks spaced between worded is_letter is_below digit_of is_named is_space is_newline in_class every is_keyword is_among keywords same_text
  wire-reads = keyword-reads (ascii "wire") 32 refl refl refl refl h

  pub assign_reads : Reads (ascii "assign " ++ s) (spaced "assign" k)
  unfolding ascii marks blanks spaced between worded is_letter is_below digit_of is_named is_space is_newline in_class every is_keyword is_among keywords same_text
  assign_reads = keyword-reads (ascii "assign") 32 refl refl refl refl h

  pub always-reads : Reads (ascii "always " ++ s) (spaced "always" k)
  unfolding ascii marks blanks spaced between worded is_letter is_below digit_of is_named is_space is_newline in_class every is_keyword is_among keywords same_text
  always-reads = keyword-reads (ascii "always") 32 refl refl refl refl h

  pub posedge-reads : Reads (ascii "posedge " ++ s) (spaced "posedge" k)
  unfolding ascii marks blanks spaced between worded is_letter is_below digit_of is_named is_space is_newline in_class every is_keyword is_among keywords same_text
  posedge-reads = keyword-reads (ascii "posedge") 32 refl refl refl refl h

  pub negedge-reads : Reads (ascii "negedge " ++ s) (spaced "negedge" k)
  unfolding ascii marks blanks spaced between worded is_letter is_below digit_of is_named is_space is_newline in_class every is_keyword is_among keywords same_text
  negedge-reads = keyword-reads (ascii "negedge") 32 refl refl refl refl h

  pub or-reads : Reads (ascii "or " ++ s) (spaced "or" k)
  unfolding ascii marks blanks spaced between worded is_letter is_below digit_of is_named is_space is_newline in_class every is_keyword is_among keywords same_text
  or-reads = keyword-reads (ascii "or") 32 refl refl refl refl h

  pub if-reads : Reads (ascii "if " ++ s) (spaced "if" k)
  unfolding ascii marks blanks spaced between worded is_letter is_below digit_of is_named is_space is_newline in_class every is_keyword is_among keywords same_text
  if-reads = keyword-reads (ascii "if") 32 refl refl refl refl h

  pub else-reads : Reads (ascii "else " ++ s) (spaced "else" k)
  unfolding ascii marks blanks spaced between worded is_letter is_below digit_of is_named is_space is_newline in_class every is_keyword is_among keywords same_text
  else-reads = keyword-reads (ascii "else") 32 refl refl refl refl h

  pub while-reads : Reads (ascii "while " ++ s) (spaced "while" k)
  unfolding ascii marks blanks spaced between worded is_letter is_below digit_of is_named is_space is_newline in_class every is_keyword is_among keywords same_text
  while-reads = keyword-reads (ascii "while") 32 refl refl refl refl h

  pub forever-reads : Reads (ascii "forever " ++ s) (spaced "forever" k)
  unfolding ascii marks blanks spaced between worded is_letter is_below digit_of is_named is_space is_newline in_class every is_keyword is_among keywords same_text
  forever-reads = keyword-reads (ascii "forever") 32 refl refl refl refl h

  pub begin-reads : Reads (ascii "begin " ++ s) (spaced "begin" k)
  unfolding ascii marks blanks spaced between worded is_letter is_below digit_of is_named is_space is_newline in_class every is_keyword is_among keywords same_text
  begin-reads = keyword-reads (ascii "begin") 32 refl refl refl refl h

  pub begin-line-reads : Reads (ascii "begin\n" ++ s) (spaced "begin" k)
  unfolding ascii marks blanks spaced between worded is_letter is_below digit_of is_named is_space is_newline in_class every is_keyword is_among keywords same_text
  begin-line-reads = keyword-reads (ascii "begin") 10 refl refl refl refl h

  pub end_reads : Reads (ascii "end " ++ s) (spaced "end" k)
  unfolding ascii marks blanks spaced between worded is_letter is_below digit_of is_named is_space is_newline in_class every is_keyword is_among keywords same_text
  end_reads = keyword-reads (ascii "end") 32 refl refl refl refl h

  pub end-line-reads : Reads (ascii "end\n" ++ s) (spaced "end" k)
  unfolding ascii marks blanks spaced between worded is_letter is_below digit_of is_named is_space is_newline in_class every is_keyword is_among keywords same_text
  end-line-reads = keyword-reads (ascii "end") 10 refl refl refl refl h

  pub endmodule-reads : Reads (ascii "endmodule\n" ++ s) (spaced "endmodule" k)
  unfolding ascii marks blanks spaced between worded is_letter is_below digit_of is_named is_space is_newline in_class every is_keyword is_among keywords same_text
  endmodule-reads = keyword-reads (ascii "endmodule") 10 refl refl refl refl h

-- ---- the printer's words

module _ {s : List ℕ} {k : From} (h : Reads s k) where
  pub or_word : Reads (ascii " or " ++ s) (between "or" k)
  unfolding ascii between spaced is_space
  or_word = reads-blank 32 refl (or-reads h)

  pub if_word : Reads (ascii "if (" ++ s) (spaced "if" (marks "(" k))
  unfolding ascii
  if_word = if-reads (open-reads h)

  pub while-word : Reads (ascii "while (" ++ s) (spaced "while" (marks "(" k))
  unfolding ascii
  while-word = while-reads (open-reads h)

  pub forever-word : Reads (ascii "forever begin\n" ++ s) (spaced "forever" (spaced "begin" k))
  unfolding ascii
  forever-word = forever-reads (begin-line-reads h)

  pub empty-word : Reads (ascii "begin end\n" ++ s) (spaced "begin" (spaced "end" k))
  unfolding ascii
  empty-word = begin-reads (end-line-reads h)

  pub else-word : Reads (ascii "end else begin\n" ++ s) (spaced "end" (spaced "else" (spaced "begin" k)))
  unfolding ascii
  else-word = end_reads (else-reads (begin-line-reads h))

  pub opened-word : Reads (ascii ") begin\n" ++ s) (opened k)
  unfolding ascii opened
  opened-word = closed-reads (begin-line-reads h)

  pub ended-word : Reads (ascii ";\n" ++ s) (ended k)
  unfolding ended
  ended-word = semicolon-reads h

  pub at-word : Reads (ascii "@(" ++ s) (marks "@" (marks "(" k))
  unfolding ascii
  at-word = at_reads (open-reads h)

  pub wait-word : Reads (ascii ");\n" ++ s) (marks ")" (ended k))
  unfolding ascii ended
  wait-word = close-reads (semicolon-reads h)

  pub always-word : Reads (ascii "  always begin\n" ++ s) (indented 1 (spaced "always" (spaced "begin" k)))
  unfolding ascii indented
  always-word = reads-blanks 2 (always-reads (begin-line-reads h))

  pub thread-word : Reads (ascii "  always " ++ s) (indented 1 (spaced "always" k))
  unfolding ascii indented
  thread-word = reads-blanks 2 (always-reads h)

  pub assign_word : Reads (ascii "  assign " ++ s) (indented 1 (spaced "assign" k))
  unfolding ascii indented
  assign_word = reads-blanks 2 (assign_reads h)

  pub thread-end : Reads (ascii "  end\n" ++ s) (closed 1 k)
  unfolding ascii indented closed
  thread-end = reads-blanks 2 (end-line-reads h)

  pub blanks-word : Reads (ascii "  " ++ s) (indented 1 k)
  unfolding ascii indented
  blanks-word = reads-blanks 2 h

  pub range-word : Reads (ascii ":0] " ++ s) (marks ":" (counts 0 (spaced "]" k)))
  unfolding ascii digits decimal
  range-word = colon-reads (count-reads 0 (omega arith) (stops-bracket (32 ∷ s)) (unbracket-reads h))

  pub module-word : Reads (ascii "module walbryts (" ++ s) (spaced "module" (names (ascii "walbryts") (blanks 1 (marks "(" k))))
  unfolding ascii marks blanks spaced between worded is_letter is_below digit_of is_named is_space is_newline in_class every is_keyword is_among keywords same_text
  module-word = module-reads (named-reads (ascii "walbryts") refl refl (ends-blank (40 ∷ s)).word (reads-blank 32 refl (open-reads h)))
