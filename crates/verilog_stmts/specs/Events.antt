-- Event controls, on the tables of a text's tokens and the buffer.
use Rattle.std.specs.Prelude.{List, [], ◌∷◌, ℕ, zero, suc, ◌+◌, ◌-◌, ltb}
use Rattle.values.specs.Values.{pick}
use Rattle.verilog_grammar.specs.Meaning.{up_to}
use Rattle.verilog_exprs.specs.Rows.{expected}
use Rattle.verilog_stmts.specs.Steps.{State, moved, refused, after, is_next, write, stamp_at, named}

-- ---- a count of events: past 8 all counts are alike

unfoldable pub one_more : ℕ → ℕ
one_more n = pick (ltb n 9) (n + 1) 9

unfoldable pub counted : ℕ → ℕ
counted n = up_to 8 n

module _ (ks ns : List ℕ) where
  -- ---- "so many pairs of edge (0 any change, 1 posedge, 2 negedge) and variable"

  unfoldable pub term : ℕ → State → State
  term e s = named ks ns (write (e ∷ []) s)

  unfoldable pub edge : ℕ → State → State
  edge e s = term e (moved after s)

  unfoldable pub event : State → State
  event s = pick (is_next ks 17 s.put) (edge 1) (pick (is_next ks 18 s.put) (edge 2) (term 0)) s

  -- ---- n events were read; the byte of their count stands at a place

  unfoldable pub onward : (State → State) → State → State
  onward rest s = rest (moved after s)

  unfoldable pub events_behind : (State → State) → ℕ → ℕ → State → State
  events_behind rest from n s =
      pick (is_next ks 19 s.put) (onward rest) (pick (is_next ks 26 s.put) (onward rest) (stamp_at (counted n) from)) s

  unfoldable pub events : ℕ → ℕ → ℕ → State → State
  events zero from n s = moved refused s
  events (suc g) from n s = events_behind (events g from (one_more n)) from (one_more n) (event s)

  module _ (count : ℕ) where
    unfoldable pub listed : ℕ → State → State
    listed from s = events (count - s.put.next) from 0 s

    unfoldable pub event_list : ℕ → State → State
    event_list from s = moved (expected ks 21) (listed from (moved after s))

    unfoldable pub waits : ℕ → State → State
    waits from s = pick (is_next ks 20 s.put) (event_list from) (term 0) s

    -- The first two bytes, the count, and the pairs.
    unfoldable pub counting : State → State
    counting s = waits s.put.pos (write (1 ∷ []) s)

    unfoldable pub control : State → State
    control s = counting (write (0x0C ∷ 0x10 ∷ []) (moved (expected ks 27) s))
