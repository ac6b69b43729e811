-- What is printed of a fault.
use Rattle.std.specs.Prelude.{ℕ, List, ◌++◌, codes, decimal}
use Rattle.graph.specs.declared.fault.Fault.{Fault}
use Rattle.graph.specs.declared.fault.Layer.{Layer}
use Rattle.graph.specs.declared.fault.Layer.TheVariants.{Frame, Record, Graph, Call}
use Rattle.graph.specs.Faults.{number}

-- A layer's name.
abbrev pub layer_name : Layer → List ℕ
layer_name Frame = codes "frame"
layer_name Record = codes "record"
layer_name Graph = codes "graph"
layer_name Call = codes "call"

-- A refusal: its number, layer and place.
abbrev pub fault_text : Fault → List ℕ
fault_text f =
    codes "refused " ++ (decimal (number f.cause) ++ (codes " " ++ (layer_name f.layer ++ (codes " " ++ decimal f.place))))
