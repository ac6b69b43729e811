use Rattle.theory.proofs.Costs.{adding_makes_no_set_cheaper, cheapest_exists, swap_makes_no_set_dearer}
use Rattle.price.proofs.cheapest.cheapest_sets.Goals as goal

pub returns : goal.returns
returns g c =
    let P = g.row.P.Denot in
    let K = g.P.Price.kind in
    let laws = g.met.P.Price.lawful in
    record { exists = cheapest_exists P K laws; swap = swap_makes_no_set_dearer P K laws; adding = adding_makes_no_set_cheaper P K laws }
