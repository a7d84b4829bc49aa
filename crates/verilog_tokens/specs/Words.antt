-- The words that are no names, and the signs.
use Rattle.std.specs.Prelude.{Bool, true, false, ◌||◌, List, [], ◌∷◌, ℕ, eqb}
use Rattle.values.specs.Values.{pick}
use Rattle.writing.specs.Ascii.{ascii}
use Rattle.naming.specs.Naming.{same_text}

-- ---- Annex B, the keywords: 124 words. A keyword is no simple identifier, whether a production of ours has it or not.

unfoldable pub keywords : List (List ℕ)
keywords =
    ascii "always" ∷ ascii "and" ∷ ascii "assign" ∷ ascii "automatic" ∷ ascii "begin" ∷ ascii "buf" ∷ ascii "bufif0" ∷
    ascii "bufif1" ∷ ascii "case" ∷ ascii "casex" ∷ ascii "casez" ∷ ascii "cell" ∷ ascii "cmos" ∷ ascii "config" ∷
    ascii "deassign" ∷ ascii "default" ∷ ascii "defparam" ∷ ascii "design" ∷ ascii "disable" ∷ ascii "edge" ∷ ascii "else" ∷
    ascii "end" ∷ ascii "endcase" ∷ ascii "endconfig" ∷ ascii "endfunction" ∷ ascii "endgenerate" ∷ ascii "endmodule" ∷
    ascii "endprimitive" ∷ ascii "endspecify" ∷ ascii "endtable" ∷ ascii "endtask" ∷ ascii "event" ∷ ascii "for" ∷
    ascii "force" ∷ ascii "forever" ∷ ascii "fork" ∷ ascii "function" ∷ ascii "generate" ∷ ascii "genvar" ∷ ascii "highz0" ∷
    ascii "highz1" ∷ ascii "if" ∷ ascii "ifnone" ∷ ascii "incdir" ∷ ascii "include" ∷ ascii "initial" ∷ ascii "inout" ∷
    ascii "input" ∷ ascii "instance" ∷ ascii "integer" ∷ ascii "join" ∷ ascii "large" ∷ ascii "liblist" ∷ ascii "library" ∷
    ascii "localparam" ∷ ascii "macromodule" ∷ ascii "medium" ∷ ascii "module" ∷ ascii "nand" ∷ ascii "negedge" ∷ ascii "nmos" ∷
    ascii "nor" ∷ ascii "noshowcancelled" ∷ ascii "not" ∷ ascii "notif0" ∷ ascii "notif1" ∷ ascii "or" ∷ ascii "output" ∷
    ascii "parameter" ∷ ascii "pmos" ∷ ascii "posedge" ∷ ascii "primitive" ∷ ascii "pull0" ∷ ascii "pull1" ∷ ascii "pulldown" ∷
    ascii "pullup" ∷ ascii "pulsestyle_onevent" ∷ ascii "pulsestyle_ondetect" ∷ ascii "rcmos" ∷ ascii "real" ∷ ascii "realtime" ∷
    ascii "reg" ∷ ascii "release" ∷ ascii "repeat" ∷ ascii "rnmos" ∷ ascii "rpmos" ∷ ascii "rtran" ∷ ascii "rtranif0" ∷
    ascii "rtranif1" ∷ ascii "scalared" ∷ ascii "showcancelled" ∷ ascii "signed" ∷ ascii "small" ∷ ascii "specify" ∷
    ascii "specparam" ∷ ascii "strong0" ∷ ascii "strong1" ∷ ascii "supply0" ∷ ascii "supply1" ∷ ascii "table" ∷ ascii "task" ∷
    ascii "time" ∷ ascii "tran" ∷ ascii "tranif0" ∷ ascii "tranif1" ∷ ascii "tri" ∷ ascii "tri0" ∷ ascii "tri1" ∷
    ascii "triand" ∷ ascii "trior" ∷ ascii "trireg" ∷ ascii "unsigned" ∷ ascii "use" ∷ ascii "uwire" ∷ ascii "vectored" ∷
    ascii "wait" ∷ ascii "wand" ∷ ascii "weak0" ∷ ascii "weak1" ∷ ascii "while" ∷ ascii "wire" ∷ ascii "wor" ∷ ascii "xnor" ∷
    ascii "xor" ∷ []

unfoldable pub is_among : List (List ℕ) → List ℕ → Bool
is_among [] word = false
is_among (w ∷ ws) word = same_text w word || is_among ws word

unfoldable pub is_keyword : List ℕ → Bool
is_keyword word = is_among keywords word

-- ---- the signs, the longer of two before the shorter. `^~` stands in no production: `a ^~b` isn't `a ^ ~b`.

unfoldable pub signs : List (List ℕ)
signs =
    ascii "==" ∷ ascii "<=" ∷ ascii "^~" ∷ ascii "(" ∷ ascii ")" ∷ ascii "[" ∷ ascii "]" ∷ ascii ":" ∷ ascii ";" ∷ ascii "," ∷
    ascii "@" ∷ ascii "=" ∷ ascii "<" ∷ ascii "?" ∷ ascii "~" ∷ ascii "!" ∷ ascii "&" ∷ ascii "|" ∷ ascii "^" ∷ ascii "+" ∷
    ascii "-" ∷ []

-- Does a list open with these characters?
unfoldable pub opens_with : List ℕ → List ℕ → Bool
opens_with [] s = true
opens_with (c ∷ cs) [] = false
opens_with (c ∷ cs) (b ∷ s) = pick (eqb c b) (opens_with cs s) false

-- The first of these that a list opens with; [] for none.
unfoldable pub first_of : List (List ℕ) → List ℕ → List ℕ
first_of [] s = []
first_of (w ∷ ws) s = pick (opens_with w s) w (first_of ws s)
