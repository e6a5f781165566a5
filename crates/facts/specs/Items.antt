-- The initializers of one part of a class, of its statics or of its objects, in the order of the text, and the facts of them.
use Rattle.std.specs.Prelude.{Bool, true, false, ◌&&◌, ◌||◌, List, [], ◌∷◌}
use Rattle.facts.specs.Uses.{Use, Reads, Writes, Calls, ThisField, This, Further, Uses, none, both}

pub data Item (C N : Type 0) : Type 0 where
  -- a field without initializer: it stays so, or is assigned elsewhere before it is read
  Unset : N → Item C N
  Declared : N → Item C N
  -- a static constant, and whether its value is what a field of its type has when nothing was stored
  Constant : N → Bool → Item C N
  -- a field with that value as its initializer
  Default : N → Item C N
  -- a box with the constant 0, false or '\0': what it has when nothing was stored is null
  Late : N → Item C N
  -- a field with another initializer, and a block
  Given : N → Uses C N → Item C N
  Block : Uses C N → Item C N

abbrev pub no_name : {N : Type 0} → N → Bool
no_name name = false

module _ {C N : Type 0} where
  -- ---- leading

  -- a default behind it may be leading
  abbrev pub stays_leading : Item C N → Bool
  stays_leading (Unset name) = true
  stays_leading (Declared name) = true
  stays_leading (Constant name is_default) = is_default
  stays_leading (Default name) = true
  stays_leading (Late name) = false
  stays_leading (Given name uses) = false
  stays_leading (Block uses) = false

  -- whether the item is a default that leads, where defaults lead before it; an absent initializer counts as one
  abbrev pub is_leading : Bool → Item C N → Bool
  is_leading leads (Unset name) = leads
  is_leading leads (Default name) = leads
  is_leading leads _ = false

-- what is done: an initializer that stores, or a statement
pub data Done (C N : Type 0) : Type 0 where
  Stores : N → Uses C N → Done C N
  Does : Uses C N → Done C N

-- what a language makes of a default that doesn't lead, and of the constant 0 of a box
pub record Reading (C N : Type 0) : Type 0 where
  pub default_does : N → Done C N
  pub late_does : N → Done C N

module _ {C N : Type 0} where
  -- by the uses of the statement that stores into a field of this part
  module _ (store : N → Uses C N) where
    -- Java stores both by a statement (own rule)
    abbrev pub java : Reading C N
    java = record { default_does = λ name. Does (store name); late_does = λ name. Does (store name) }

    -- Kotlin's property stores its value
    abbrev pub kotlin : Reading C N
    kotlin = record { default_does = λ name. Stores name none; late_does = λ name. Does (store name) }

  module _ (r : Reading C N) where
    abbrev pub done_by : Bool → Item C N → List (Done C N) → List (Done C N)
    done_by leads (Unset name) more = more
    done_by leads (Declared name) more = more
    done_by leads (Constant name is_default) more = more
    done_by true (Default name) more = more
    done_by false (Default name) more = r.default_does name ∷ more
    done_by leads (Late name) more = r.late_does name ∷ more
    done_by leads (Given name uses) more = Stores name uses ∷ more
    done_by leads (Block uses) more = Does uses ∷ more

    -- what the items do in their order; the flag tells that a default may lead
    abbrev pub done : Bool → List (Item C N) → List (Done C N)
    done leads [] = []
    done leads (x ∷ items) = done_by leads x (done (leads && stays_leading x) items)

  -- whether they do nothing
  abbrev pub nothing_done : List (Done C N) → Bool
  nothing_done [] = true
  nothing_done (x ∷ more) = false

  -- what their text uses
  abbrev pub item_uses : Item C N → Uses C N
  item_uses (Given name uses) = uses
  item_uses (Block uses) = uses
  item_uses _ = none

  abbrev pub items_use : List (Item C N) → Uses C N
  items_use [] = none
  items_use (x ∷ items) = both (item_uses x) (items_use items)

  -- ---- calm, by when two names are the same, and the class whose statics these are

  module _ (same : N → N → Bool) (own : C → Bool) where
    abbrev pub also : N → (N → Bool) → N → Bool
    also name earlier x = same name x || earlier x

    -- a read of an own static that stands earlier, an assignment to an own one, and nothing else
    abbrev pub calm_use : (N → Bool) → Use C N → Bool
    calm_use earlier (Reads c name) = own c && earlier name
    calm_use earlier (Writes c name) = own c
    calm_use earlier (Calls c name) = false
    calm_use earlier ThisField = false
    calm_use earlier This = false
    calm_use earlier Further = false

    abbrev pub passed : Item C N → (N → Bool) → N → Bool
    passed (Unset name) earlier = earlier
    passed (Declared name) earlier = also name earlier
    passed (Constant name is_default) earlier = earlier
    passed (Default name) earlier = also name earlier
    passed (Late name) earlier = also name earlier
    passed (Given name uses) earlier = also name earlier
    passed (Block uses) earlier = earlier

    abbrev pub calm_item : (N → Bool) → Item C N → Bool
    calm_item earlier (Given name uses) = uses (calm_use earlier)
    calm_item earlier (Block uses) = uses (calm_use earlier)
    calm_item earlier _ = true

    abbrev pub calm_items : (N → Bool) → List (Item C N) → Bool
    calm_items earlier [] = true
    calm_items earlier (x ∷ items) = calm_item earlier x && calm_items (passed x earlier) items

    -- those that have been passed behind some items
    abbrev pub behind : List (Item C N) → (N → Bool) → N → Bool
    behind [] earlier = earlier
    behind (x ∷ items) earlier = behind items (passed x earlier)

    -- an unset static counts as earlier than every other
    abbrev pub with_unset : List (Item C N) → (N → Bool) → N → Bool
    with_unset [] earlier = earlier
    with_unset (Unset name ∷ items) earlier = with_unset items (also name earlier)
    with_unset (_ ∷ items) earlier = with_unset items earlier
