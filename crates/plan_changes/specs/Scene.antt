-- What a change of values works on, as the code keeps it: one plane of cells, the threads' places, and sets of marks.
-- Defined for contents of any kind.
use Rattle.std.specs.Prelude.{ℕ, Bool, List}

-- Where the threads stand, and which of them stand off a wait.
pub record Stand : Type 0 where
  pub places : List ℕ
  pub ready : List Bool

abbrev pub stand : List ℕ → List Bool → Stand
stand ps rs = record { places = ps; ready = rs }

-- The midst of a change: the cells so far, the wires that are due, and the threads whose waits it has fired.
pub record Changing : Type 0 where
  pub cells : List ℕ
  pub due : List Bool
  pub woken : List Bool

abbrev pub changing : List ℕ → List Bool → List Bool → Changing
changing cs ds ws = record { cells = cs; due = ds; woken = ws }

-- What a change leaves.
pub record Scene : Type 0 where
  pub cells : List ℕ
  pub places : List ℕ
  pub due : List Bool
  pub ready : List Bool

abbrev pub scene : List ℕ → List ℕ → List Bool → List Bool → Scene
scene cs ps ds rs = record { cells = cs; places = ps; due = ds; ready = rs }
