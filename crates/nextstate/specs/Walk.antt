-- The walk from a wait to the next (document 01, "Extraction and the cycle run", after 003, section 4.2; document 02, [5]).
use Rattle.std.specs.Prelude.{ℕ, zero, suc, ◌+◌, ◌-◌, List, [], ◌∷◌, ◌++◌, length, get_or, set, ltb}
use Rattle.values.specs.Values.{pick}
use Rattle.sheet.specs.Reading.{Res, ok, ◌>>=◌, ◌>>◌, check}
use Rattle.sheet.specs.Expression.{Expr, variable, constant, unknown, unary, binary, conditional, call, Arguments, no_more, argument}
use Rattle.sheet.specs.Expression.{Body, nothing, result, in_turn, if_then, if_else}
use Rattle.sheet.specs.Statement.{is_register}
use Rattle.sheet.specs.Module.{Module}
use Rattle.pseudocode.specs.Translation.{Instr, wait!, set!, later!, go, ifnot}
use Rattle.state.specs.Rows.{list_of}
use Rattle.events.specs.Cycle.{code_of, instr_at}
use Rattle.nextstate.specs.Rules.{defers, writes}
use Rattle.nextstate.specs.Nodes.{Node, a_constant, an_unknown, a_unary, a_binary, a_conditional, a_branch}

-- ---- a node more: "21 over 4,096 nodes", met as soon as the 4,097th is asked for

-- The nodes, and the number of one of them.
pub record Emitted : Type 0 where
  pub nodes : List Node
  pub node : ℕ

unfoldable pub emit : List Node → Node → Res Emitted
emit t n = do
  check (ltb (length t) 4096) 21 0
  ok (record { nodes = t ++ (n ∷ []); node = length t })

-- ---- "those of each instruction's expression, operands first, left first (a variable takes the node held)"

-- The nodes, and the numbers of the arguments' nodes.
pub record EmittedAll : Type 0 where
  pub nodes : List Node
  pub all : List ℕ

-- The node held for a variable of a body: an argument's, or the result's.
abbrev pub held_in : List ℕ → ℕ → ℕ → ℕ
held_in ys r v = get_or (ys ++ (r ∷ [])) v 0

-- What a walk of a body goes on to where the body ends: the result's node is the call's.
abbrev pub ends : ℕ → List Node → Res Emitted
ends r t = ok (record { nodes = t; node = r })

unfoldable mutual
  pub express : (ℕ → ℕ) → Expr → List Node → Res Emitted
  express held (variable v) t = ok (record { nodes = t; node = held v })
  express held (constant w n) t = emit t (a_constant w n)
  express held (unknown w) t = emit t (an_unknown w)
  express held (unary o w a) t = do
    x ← express held a t
    emit x.nodes (a_unary o x.node)
  express held (binary o w a b) t = do
    x ← express held a t
    y ← express held b x.nodes
    emit y.nodes (a_binary o x.node y.node)
  express held (conditional c a b) t = do
    x ← express held c t
    y ← express held a x.nodes
    z ← express held b y.nodes
    emit z.nodes (a_conditional x.node y.node z.node)
  -- "Extraction puts for a call its arguments, an unknown node for the result, then its body's walk, branching that alone."
  express held (call n w ys b) t = do
    x ← express_all held ys t
    y ← emit x.nodes (an_unknown w)
    follow x.all b ends y.node y.nodes

  pub express_all : (ℕ → ℕ) → Arguments → List Node → Res EmittedAll
  express_all held no_more t = ok (record { nodes = t; all = [] })
  express_all held (argument e ys) t = do
    x ← express held e t
    y ← express_all held ys x.nodes
    ok (record { nodes = y.nodes; all = x.node ∷ y.all })

  -- A body's walk from where the result has node r, on the arguments' nodes; `next` walks on behind the body. At an if: the
  -- condition, the leg where it holds and the other leg, each on to the body's end, then one branch node, for the result.
  pub follow : List ℕ → Body → (ℕ → List Node → Res Emitted) → ℕ → List Node → Res Emitted
  follow ys nothing next r t = next r t
  follow ys (result e) next r t = do
    x ← express (held_in ys r) e t
    next x.node x.nodes
  follow ys (in_turn a b) next r t = follow ys a (follow ys b next) r t
  follow ys (if_then e a) next r t = do
    c ← express (held_in ys r) e t
    x ← follow ys a next r c.nodes
    y ← next r x.nodes
    emit y.nodes (a_branch c.node x.node y.node)
  follow ys (if_else e a b) next r t = do
    c ← express (held_in ys r) e t
    x ← follow ys a next r c.nodes
    y ← follow ys b next r x.nodes
    emit y.nodes (a_branch c.node x.node y.node)

-- ---- "It holds the current and the later value, two rows of 32 node numbers."

pub record Held : Type 0 where
  pub current : List ℕ
  pub later : List ℕ

-- What a walk leaves: the nodes, the register's nodes and the place's.
pub record Walked : Type 0 where
  pub nodes : List Node
  pub registers : List ℕ
  pub place : ℕ

pub record Merged : Type 0 where
  pub nodes : List Node
  pub registers : List ℕ

module _ (m : Module Expr) where
  -- Each register's own variable; 0 past the last register.
  unfoldable pub own_row : List ℕ
  own_row = list_of 32 (λ r. pick (ltb r m.scope.registers) (m.scope.inputs + r) 0)

  unfoldable pub own_rows : Held
  own_rows = record { current = own_row; later = own_row }

  -- The node that stands for a variable: a register's is the one held.
  unfoldable pub held_node : List ℕ → ℕ → ℕ
  held_node row v = pick (is_register m.scope v) (get_or row (v - m.scope.inputs) 0) v

module _ (m : Module Expr) (i : ℕ) where
  -- At the walk's end: what thread i assigns later stands in the later row, all else in the current one.
  unfoldable pub landed : Held → List ℕ
  landed h = list_of 32 (λ r. pick (defers m i (m.scope.inputs + r)) (get_or h.later r 0) (get_or h.current r 0))

  -- "then one branch node for each register the thread writes, rising": the registers below n, of the legs' rows a and b.
  unfoldable pub merge_one : ℕ → List ℕ → List ℕ → ℕ → Merged → Res Merged
  merge_one c a b r x =
      pick (writes m i (m.scope.inputs + r))
      (do
        y ← emit x.nodes (a_branch c (get_or a r 0) (get_or b r 0))
        ok (record { nodes = y.nodes; registers = x.registers ++ (y.node ∷ []) }))
      (ok (record { nodes = x.nodes; registers = x.registers ++ (get_or a r 0 ∷ []) }))

  unfoldable pub merge : ℕ → List ℕ → List ℕ → ℕ → List Node → Res Merged
  merge c a b zero t = ok (record { nodes = t; registers = [] })
  merge c a b (suc n) t = do
    x ← merge c a b n t
    merge_one c a b n x

  -- One instruction, at place p; `next` walks on.
  unfoldable pub visit : (ℕ → Held → List Node → Res Walked) → ℕ → Held → List Node → Instr Expr → Res Walked
  -- "the next place as an 8-bit constant at the walk's end"
  visit next p h t (wait! ts) = do
    y ← emit t (a_constant 8 p)
    ok (record { nodes = y.nodes; registers = landed h; place = y.node })
  visit next p h t (set! v e) = do
    x ← express (held_node m h.current) e t
    next (p + 1) (record { current = set h.current (v - m.scope.inputs) x.node; later = h.later }) x.nodes
  visit next p h t (later! v e) = do
    x ← express (held_node m h.current) e t
    next (p + 1) (record { current = h.current; later = set h.later (v - m.scope.inputs) x.node }) x.nodes
  visit next p h t (go g) = next g h t
  -- "At `ifnot`: the condition, the held leg, the other leg, then one branch node for each register the thread writes, rising,
  -- and for the place."
  visit next p h t (ifnot e g) = do
    c ← express (held_node m h.current) e t
    a ← next (p + 1) h c.nodes
    b ← next g h a.nodes
    x ← merge c.node a.registers b.registers 32 b.nodes
    y ← emit x.nodes (a_branch c.node a.place b.place)
    ok (record { nodes = y.nodes; registers = x.registers; place = y.node })

  -- The walk from place p on, of at most so many instructions. By rule 17 a thread's own number of instructions is enough.
  unfoldable pub walk : ℕ → ℕ → Held → List Node → Res Walked
  walk zero p h t = ok (record { nodes = t; registers = h.current; place = 0 })
  walk (suc n) p h t = visit (walk n) p h t (instr_at (code_of m i) p)
