-- Which breaking sets holding, passing and dropping keep.
use Rattle.std.specs.Prelude.{◌≡◌, ℕ, false, ◌≢◌, ◌↔◌}
use Rattle.theory.specs.Loops.{Links, Stages, Link, Breaks}
use Rattle.theory.specs.Moves.{dropped, held, passed, with_stage}
use Rattle.theory.specs.Mates.{Dominated, unpaired}
use Rattle.theory.specs.Reach.{OnLoop}

-- A set that lacks v breaks a graph exactly if it breaks the graph with v passed, where v has no self-link.
abbrev pub PassingKeepsTheSetsWithout : Type 0
PassingKeepsTheSetsWithout =
    (L : Links) (S : Stages) (v : ℕ) → L v v ≡ false → S v ≡ false → Breaks L S ↔ Breaks (passed L v) S

-- A set breaks the graph with v held exactly if the set with v added breaks the graph.
abbrev pub HoldingKeepsTheSetsWith : Type 0
HoldingKeepsTheSetsWith = (L : Links) (S : Stages) (v : ℕ) → Breaks (held L v) S ↔ Breaks L (with_stage S v)

-- Without the link from u to v the same sets break the graph.
abbrev pub DropsFreely : Links → ℕ → ℕ → Type 0
DropsFreely L u v = (S : Stages) → Breaks L S ↔ Breaks (dropped L u v) S

-- An unpaired link on no loop of unpaired links is dropped freely.
abbrev pub OffUnpairedLoopsDropsFreely : Type 0
OffUnpairedLoopsDropsFreely =
    (L : Links) (u v : ℕ) → Link (unpaired L) u v → (OnLoop (unpaired L) u v → ⊥) → DropsFreely L u v

-- An unpaired link between two different stages that is dominated is dropped freely.
abbrev pub DominatedDropsFreely : Type 0
DominatedDropsFreely =
    (L : Links) (u v : ℕ) → u ≢ v → Link (unpaired L) u v → Dominated L u v → DropsFreely L u v
