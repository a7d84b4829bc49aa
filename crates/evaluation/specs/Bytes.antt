-- What the code works out at a place of a sheet, for any bytes whatever: past the end a byte is 0.
-- proofs/Calls shows that it is `eval` of the tree where the sheet's reader accepted.
use Rattle.std.specs.Prelude.{ℕ, zero, suc, ◌+◌, List, length, get_or, drop, set, replicate, ltb, eqb}
use Rattle.values.specs.declared.Value.{Value}
use Rattle.values.specs.Values.{pick, known, all_unknown, holds}
use Rattle.values.specs.Values.{◌is◌then◌else◌}
use Rattle.values.specs.Operators.{unary_width, binary_width, unary, binary, choice}
use Rattle.values.specs.Cells.{cell_of, cell_at}
use Rattle.sheet.specs.Reading.{word_of}
use Rattle.sheet.specs.Parts.{definition_at}
use Rattle.evaluation.specs.declared.Evaluated.{Evaluated}
use Rattle.evaluation.specs.declared.Frame.{Frame}
use Rattle.evaluation.specs.declared.Names.{Names}

-- ---- nothing: where no expression stands

unfoldable pub nothing : Evaluated
nothing = record { value = all_unknown 0; width = 0; next = 0 }

-- ---- one node, by the byte after its map; what follows that byte stands at p, and `operand` evaluates an operand

unfoldable pub variable_node : List ℕ → (ℕ → Value) → ℕ → ℕ → Evaluated
variable_node ws env v p = record { value = env v; width = get_or ws v 0; next = p }

unfoldable pub unary_node : (ℕ → Evaluated) → ℕ → ℕ → Evaluated
unary_node operand o p =
    let a = operand p in
    record { value = unary o a.width a.value; width = unary_width o a.width; next = a.next }

unfoldable pub binary_node : (ℕ → Evaluated) → ℕ → ℕ → Evaluated
binary_node operand o p =
    let a = operand p in
    let b = operand a.next in
    record { value = binary o a.width a.value b.value; width = binary_width o a.width; next = b.next }

unfoldable pub conditional_node : (ℕ → Evaluated) → ℕ → Evaluated
conditional_node operand p =
    let c = operand p in
    let a = operand c.next in
    let b = operand a.next in
    record { value = choice c.value a.value b.value; width = a.width; next = b.next }

-- How a call is worked out: by what evaluates its arguments, the function's number and the first argument's place.
abbrev pub Calling : Type 0
Calling = (ℕ → Evaluated) → ℕ → ℕ → Evaluated

-- "04h unknown constant, 11h with operators 1 ~, 2 !; 31h with 3 &, 4 |, 5 ^, 6 +, 7 -, 8 ==, 9 < (unsigned);
-- 71h with 10 ?:."; "map 80h holds a function number and then the arguments".
unfoldable pub inner_node : Calling → (ℕ → Evaluated) → ℕ → ℕ → ℕ → Evaluated
inner_node calling operand m o p =
    m is 0x04 then record { value = all_unknown o; width = o; next = p } else
    m is 0x11 then unary_node operand o p else
    m is 0x31 then binary_node operand o p else
    m is 0x71 then conditional_node operand p else
    m is 0x80 then calling operand o p else
    nothing

-- ---- work_at: the expression at p, with so many levels left, where calls are worked out like this

-- The node with map m at p: "02h variable, 0Ch constant", and the others.
unfoldable pub node_at : Calling → (ℕ → Evaluated) → List ℕ → List ℕ → (ℕ → Value) → ℕ → ℕ → Evaluated
node_at calling operand s ws env m p =
    m is 0x02 then variable_node ws env (get_or s (p + 1) 0) (p + 2) else
    m is 0x0C then record { value = known (word_of s (p + 2)); width = get_or s (p + 1) 0; next = p + 6 } else
    inner_node calling operand m (get_or s (p + 1) 0) (p + 2)

unfoldable pub work_at : Calling → ℕ → List ℕ → List ℕ → (ℕ → Value) → ℕ → Evaluated
work_at calling zero s ws env p = nothing
work_at calling (suc d) s ws env p = node_at calling (work_at calling d s ws env) s ws env (get_or s p 0) p

-- In a sheet without functions.
unfoldable pub eval_at : ℕ → List ℕ → List ℕ → (ℕ → Value) → ℕ → Evaluated
eval_at d s ws env p = work_at (λ operand n q. nothing) d s ws env p

-- ---- the place after an expression or a statement of a body that isn't run; past the end it stays

-- After n operands, each of which `skip` passes.
unfoldable pub passed : (ℕ → ℕ) → ℕ → ℕ → ℕ
passed skip zero p = p
passed skip (suc n) p = passed skip n (skip p)

-- How many operands stand behind a node's map m and the byte after it, o; a call's are as many as its function's parameters.
unfoldable pub operands_of : List ℕ → List ℕ → ℕ → ℕ → ℕ
operands_of s ds m o =
    m is 0x11 then 1 else
    m is 0x31 then 2 else
    m is 0x71 then 3 else
    m is 0x80 then get_or s (definition_at ds o) 0 else
    0

unfoldable pub skip_node : (ℕ → ℕ) → List ℕ → List ℕ → ℕ → ℕ → ℕ
skip_node skip s ds m p = passed skip (operands_of s ds m (get_or s (p + 1) 0)) (p + (m is 0x0C then 6 else 2))

unfoldable pub skip_at : ℕ → List ℕ → List ℕ → ℕ → ℕ
skip_at zero s ds p = p
skip_at (suc d) s ds p = pick (ltb p (length s)) (skip_node (skip_at d s ds) s ds (get_or s p 0) p) p

unfoldable pub skip_form : (ℕ → ℕ) → (ℕ → ℕ) → ℕ → ℕ → ℕ
skip_form skip pass m p =
    m is 0x03 then pass (p + 2) else
    m is 0x0C then skip (skip (p + 1)) else
    m is 0x06 then skip (pass (p + 1)) else
    m is 0x0E then skip (skip (pass (p + 1))) else
    p + 1

unfoldable pub skip_body : ℕ → List ℕ → List ℕ → ℕ → ℕ
skip_body zero s ds p = p
skip_body (suc d) s ds p = pick (ltb p (length s)) (skip_form (skip_body d s ds) (skip_at 16 s ds) (get_or s p 0) p) p

-- ---- one statement of a body, whose map stands at p, on a frame's cells

-- "03h assignment" to the target t; `work` works an expression out.
unfoldable pub result_form : (List ℕ → ℕ → Evaluated) → List ℕ → ℕ → ℕ → Frame
result_form work cs p t = let e = work cs (p + 2) in record { cells = set cs t (cell_of e.value); next = e.next }

-- `run` runs a statement.
unfoldable pub turn_form : (List ℕ → ℕ → Frame) → List ℕ → ℕ → Frame
turn_form run cs p = let a = run cs (p + 1) in run a.cells a.next

-- A leg that isn't taken is passed, by `skip`, and not run.
unfoldable pub if_form : (List ℕ → ℕ → Evaluated) → (List ℕ → ℕ → Frame) → (ℕ → ℕ) → List ℕ → ℕ → Frame
if_form work run skip cs p =
    let e = work cs (p + 1) in
    pick (holds e.value) (run cs e.next) (record { cells = cs; next = skip e.next })

unfoldable pub else_form : (List ℕ → ℕ → Evaluated) → (List ℕ → ℕ → Frame) → (ℕ → ℕ) → List ℕ → ℕ → Frame
else_form work run skip cs p =
    let e = work cs (p + 1) in
    let a = run cs e.next in
    pick (holds e.value) (record { cells = a.cells; next = skip a.next }) (run cs (skip e.next))

-- The statement with map m; the byte after it is t.
unfoldable pub form_at : (List ℕ → ℕ → Evaluated) → (List ℕ → ℕ → Frame) → (ℕ → ℕ) → List ℕ → ℕ → ℕ → ℕ → Frame
form_at work run skip cs p m t =
    m is 0x03 then result_form work cs p t else
    m is 0x0C then turn_form run cs p else
    m is 0x06 then if_form work run skip cs p else
    m is 0x0E then else_form work run skip cs p else
    record { cells = cs; next = p + 1 }

-- ---- run_at: the statement of a body at p, with so many levels left; its expressions have 16

unfoldable pub run_at : Calling → ℕ → List ℕ → List ℕ → List ℕ → List ℕ → ℕ → Frame
run_at calling zero s ds ws cs p = record { cells = cs; next = p }
run_at calling (suc d) s ds ws cs p =
    pick (ltb p (length s))
    (form_at (λ c q. work_at calling 16 s ws (cell_at c) q) (run_at calling d s ds ws) (skip_body d s ds) cs p (get_or s p 0) (get_or s (p + 1) 0))
    (record { cells = cs; next = p })

-- ---- calls_at: calls of the functions below k, whose definitions stand at ds

-- The frame once n arguments from k on were worked out, left first.
unfoldable pub arguments_at : (ℕ → Evaluated) → ℕ → ℕ → Frame → Frame
arguments_at operand k zero f = f
arguments_at operand k (suc n) f =
    let e = operand f.next in
    arguments_at operand (k + 1) n (record { cells = set f.cells k (cell_of e.value); next = e.next })

-- A call of the function whose definition stands at d: "its parameter count (1 to 4), their widths, its result's width and a body";
-- "the result, the only target, which starts unknown".
unfoldable pub call_node : Calling → List ℕ → List ℕ → ℕ → (ℕ → Evaluated) → ℕ → Evaluated
call_node calling s ds d operand p =
    let n = get_or s d 0 in
    let w = get_or s (d + 1 + n) 0 in
    let a = arguments_at operand 0 n (record { cells = replicate 5 0; next = p }) in
    let r = run_at calling 64 s ds (drop (d + 1) s) (set a.cells n (cell_of (all_unknown w))) (d + 2 + n) in
    record { value = cell_at r.cells n; width = w; next = a.next }

-- "Working out a call runs its body, whose expressions hold calls in turn": those of function k call the functions below k.
unfoldable pub calls_at : ℕ → List ℕ → List ℕ → Calling
calls_at zero s ds operand n p = nothing
calls_at (suc k) s ds operand n p =
    pick (eqb n k)
    (pick (ltb (definition_at ds k) (length s)) (call_node (calls_at k s ds) s ds (definition_at ds k) operand p) nothing)
    (calls_at k s ds operand n p)

-- ---- eval_in, run_in: by the names that may stand there, on a frame's cells

abbrev pub eval_in : Names → ℕ → List ℕ → List ℕ → List ℕ → ℕ → Evaluated
eval_in names d s ds cs p = work_at (calls_at names.callable s ds) d s (drop names.widths s) (cell_at cs) p

abbrev pub run_in : Names → ℕ → List ℕ → List ℕ → List ℕ → ℕ → Frame
run_in names d s ds cs p = run_at (calls_at names.callable s ds) d s ds (drop names.widths s) cs p
