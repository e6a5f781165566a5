-- How initializers are laid out where a field can't be left without a value: fields that are never set come first, with the value
-- that they have when nothing was stored, and what must be stored by a statement stands in a block behind its declaration.
use Rattle.std.specs.Prelude.{Bool, true, false, ◌&&◌, List, [], ◌∷◌, ◌++◌}
use Rattle.facts.specs.Uses.{Uses}
use Rattle.facts.specs.Items.{Item, Unset, Declared, Constant, Default, Late, Given, Block, stays_leading}

module _ {C N : Type 0} where
  -- the fields that are never set, and what is laid first
  abbrev pub unset : List (Item C N) → List N
  unset [] = []
  unset (Unset name ∷ items) = name ∷ unset items
  unset (_ ∷ items) = unset items

  abbrev pub first : List N → List (Item C N)
  first [] = []
  first (name ∷ names) = Default name ∷ first names

  -- by the uses of the statement that stores into a field of this part
  module _ (store : N → Uses C N) where
    abbrev pub apart : N → List (Item C N) → List (Item C N)
    apart name more = Declared name ∷ Block (store name) ∷ more

    abbrev pub laid_by : Bool → Item C N → List (Item C N) → List (Item C N)
    laid_by leads (Unset name) more = more
    laid_by leads (Declared name) more = Declared name ∷ more
    laid_by leads (Constant name is_default) more = Constant name is_default ∷ more
    laid_by true (Default name) more = Default name ∷ more
    laid_by false (Default name) more = apart name more
    laid_by leads (Late name) more = apart name more
    laid_by leads (Given name uses) more = Given name uses ∷ more
    laid_by leads (Block uses) more = Block uses ∷ more

    abbrev pub laid_rest : Bool → List (Item C N) → List (Item C N)
    laid_rest leads [] = []
    laid_rest leads (x ∷ items) = laid_by leads x (laid_rest (leads && stays_leading x) items)

    abbrev pub laid : Bool → List (Item C N) → List (Item C N)
    laid leads items = first (unset items) ++ laid_rest leads items
