-- What stands under the numbers of a net, as lists of constraints.
use Rattle.std.proofs.Common.{◌≡◌, ℕ, ◌+◌, Option, List, [], ◌∷◌, ◌++◌, arith, refl, sym, ap, ◌∙◌, map, flat_map, length, length-append}
use Rattle.std.proofs.lemmas.List.{length-map}
use Rattle.std.proofs.lemmas.List.Concat.{flat_map-append}
use Rattle.tube_spec.specs.Owner.{Owner}
use Rattle.ctc_network.specs.Nets.{NetState}
use Rattle.mission_items.specs.declared.item.Item.{Item}
use Rattle.any_ctc.specs.Constraints.{Constraint}
use Rattle.any_ctc.specs.declared.AnyCtc.{AnyCtc}
use Rattle.mission_net.specs.Records.{contracts}
use Rattle.mission_net.specs.Building.{stands_for, constraints_in, each_alone, IsNetOf, IsAdded}

-- what is in the lists of one each
pub members : (cs : List Constraint) → flat_map (λ (l : List Constraint). l) (each_alone cs) ≡ cs
members [] = refl
members (c ∷ cs) = ap (λ (l : List Constraint). c ∷ l) (members cs)

pub standing : (cs : List (Option AnyCtc)) → flat_map (λ (l : List Constraint). l) (map stands_for cs) ≡ flat_map stands_for cs
standing [] = refl
standing (c ∷ cs) = ap (λ (l : List Constraint). stands_for c ++ l) (standing cs)

-- the constraints of a net's contractors, in order
pub net-contracts : (grid : List ℕ) (items : List Item) (net : NetState AnyCtc) → IsNetOf grid items net → constraints_in net ≡ contracts grid items
net-contracts grid items net holds =
    sym (standing net.contractors) ∙ ap (flat_map (λ (l : List Constraint). l)) holds.contractors ∙ members (contracts grid items)

-- how many numbers the net of some records has given
pub net-count : (grid : List ℕ) (items : List Item) (net : NetState AnyCtc) → IsNetOf grid items net → length net.contractors ≡ length (contracts grid items)
net-count grid items net holds =
    omega (arith, ap length holds.contractors, length-map net.contractors stands_for, length-map (contracts grid items) (λ (c : Constraint). c ∷ []))

-- additions, in the words of the constraints
pub added-in : (os : List Owner) (cs : List Constraint) (a b : NetState AnyCtc) → IsAdded os cs a b → constraints_in b ≡ constraints_in a ++ cs
added-in os cs a b p =
    sym (standing b.contractors) ∙ ap (flat_map (λ (l : List Constraint). l)) p.contractors ∙ flat_map-append (λ (l : List Constraint). l) (map stands_for a.contractors) (each_alone cs)
    ∙ ap (λ (l : List Constraint). l ++ flat_map (λ (m : List Constraint). m) (each_alone cs)) (standing a.contractors) ∙ ap (λ (l : List Constraint). constraints_in a ++ l) (members cs)

-- each addition takes a number
pub added-count : (os : List Owner) (cs : List Constraint) (a b : NetState AnyCtc) → IsAdded os cs a b → length b.contractors ≡ length a.contractors + length cs
added-count os cs a b p =
    omega (arith, ap length p.contractors, length-append (map stands_for a.contractors) (each_alone cs), length-map cs (λ (c : Constraint). c ∷ []), length-map a.contractors stands_for, length-map b.contractors stands_for)
