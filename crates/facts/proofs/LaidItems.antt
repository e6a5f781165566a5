-- The layout keeps what items do, and whether they are calm.
use Rattle.std.proofs.Common.{◌≡◌, Bool, true, false, ◌&&◌, List, [], ◌∷◌, ◌++◌, refl, sym, ap, ◌∙◌, subst}
use Rattle.facts.specs.Uses.{Uses, keeps_this}
use Rattle.facts.specs.Items.{Item, Unset, Declared, Constant, Default, Late, Given, Block, Stores, Does, Reading, java, kotlin, done, items_use, also, calm_use, calm_items, with_unset, no_name}
use Rattle.facts.specs.Layout.{unset, first, laid_rest, laid}
use Rattle.facts.proofs.Bools.{and_true}

module _ {C N : Type 0} (store : N → Uses C N) where
  rest_done : (leads : Bool) (items : List (Item C N)) → done (kotlin store) leads (laid_rest store leads items) ≡ done (java store) leads items
  rest_done leads [] = refl
  rest_done true (Unset name ∷ items) = rest_done true items
  rest_done false (Unset name ∷ items) = rest_done false items
  rest_done true (Declared name ∷ items) = rest_done true items
  rest_done false (Declared name ∷ items) = rest_done false items
  rest_done true (Constant name is_default ∷ items) = rest_done is_default items
  rest_done false (Constant name is_default ∷ items) = rest_done false items
  rest_done true (Default name ∷ items) = rest_done true items
  rest_done false (Default name ∷ items) = ap (λ l. Does (store name) ∷ l) (rest_done false items)
  rest_done true (Late name ∷ items) = ap (λ l. Does (store name) ∷ l) (rest_done false items)
  rest_done false (Late name ∷ items) = ap (λ l. Does (store name) ∷ l) (rest_done false items)
  rest_done true (Given name uses ∷ items) = ap (λ l. Stores name uses ∷ l) (rest_done false items)
  rest_done false (Given name uses ∷ items) = ap (λ l. Stores name uses ∷ l) (rest_done false items)
  rest_done true (Block uses ∷ items) = ap (λ l. Does uses ∷ l) (rest_done false items)
  rest_done false (Block uses ∷ items) = ap (λ l. Does uses ∷ l) (rest_done false items)

  first_done : (r : Reading C N) (names : List N) (items : List (Item C N)) → done r true (first names ++ items) ≡ done r true items
  first_done r [] items = refl
  first_done r (name ∷ names) items = first_done r names items

  -- where no default leads none is laid as one: it doesn't matter whether one would
  free_done : (k : Bool) (items : List (Item C N)) → done (kotlin store) k (laid_rest store false items) ≡ done (java store) false items
  free_done k [] = refl
  free_done k (Unset name ∷ items) = free_done k items
  free_done k (Declared name ∷ items) = free_done (k && true) items
  free_done k (Constant name is_default ∷ items) = free_done (k && is_default) items
  free_done k (Default name ∷ items) = ap (λ l. Does (store name) ∷ l) (free_done ((k && true) && false) items)
  free_done k (Late name ∷ items) = ap (λ l. Does (store name) ∷ l) (free_done ((k && true) && false) items)
  free_done k (Given name uses ∷ items) = ap (λ l. Stores name uses ∷ l) (free_done (k && false) items)
  free_done k (Block uses ∷ items) = ap (λ l. Does uses ∷ l) (free_done (k && false) items)

  -- What the initializers do in Java's order and as they are laid out is the same, where defaults lead in the layout at least where
  -- they do in Java, and no field is unset where they don't lead there.
  pub laid_does : (j k : Bool) (items : List (Item C N)) → (j ≡ true → k ≡ true) → (j ≡ false → unset items ≡ []) → done (kotlin store) k (laid store j items) ≡ done (java store) j items
  laid_does true k items up none_unset = subst (λ (b : Bool). done (kotlin store) b (laid store true items) ≡ done (java store) true items) (sym (up refl)) (first_done (kotlin store) (unset items) (laid_rest store true items) ∙ rest_done true items)
  laid_does false k items up none_unset = subst (λ (names : List N). done (kotlin store) k (first names ++ laid_rest store false items) ≡ done (java store) false items) (sym (none_unset refl)) (free_done k items)

  -- ---- calm

  module _ (same : N → N → Bool) (own : C → Bool) (stored : (earlier : N → Bool) (name : N) → store name (calm_use same own earlier) ≡ true) where
    step : (earlier : N → Bool) (name : N) (a b : Bool) → a ≡ b → (store name (calm_use same own earlier) && a) ≡ b
    step earlier name a b h = and_true (store name (calm_use same own earlier)) a (stored earlier name) ∙ h

    rest_calm : (leads : Bool) (earlier : N → Bool) (items : List (Item C N)) → calm_items same own earlier (laid_rest store leads items) ≡ calm_items same own earlier items
    rest_calm leads earlier [] = refl
    rest_calm leads earlier (Unset name ∷ items) = rest_calm (leads && true) earlier items
    rest_calm leads earlier (Declared name ∷ items) = rest_calm (leads && true) (also same own name earlier) items
    rest_calm leads earlier (Constant name is_default ∷ items) = rest_calm (leads && is_default) earlier items
    rest_calm true earlier (Default name ∷ items) = rest_calm true (also same own name earlier) items
    rest_calm false earlier (Default name ∷ items) = step (also same own name earlier) name _ _ (rest_calm false (also same own name earlier) items)
    rest_calm leads earlier (Late name ∷ items) = step (also same own name earlier) name _ _ (rest_calm (leads && false) (also same own name earlier) items)
    rest_calm leads earlier (Given name uses ∷ items) = ap (λ b. uses (calm_use same own earlier) && b) (rest_calm (leads && false) (also same own name earlier) items)
    rest_calm leads earlier (Block uses ∷ items) = ap (λ b. uses (calm_use same own earlier) && b) (rest_calm (leads && false) earlier items)

    first_calm : (items : List (Item C N)) (earlier : N → Bool) (more : List (Item C N)) → calm_items same own earlier (first (unset items) ++ more) ≡ calm_items same own (with_unset same own items earlier) more
    first_calm [] earlier more = refl
    first_calm (Unset name ∷ items) earlier more = first_calm items (also same own name earlier) more
    first_calm (Declared name ∷ items) earlier more = first_calm items earlier more
    first_calm (Constant name is_default ∷ items) earlier more = first_calm items earlier more
    first_calm (Default name ∷ items) earlier more = first_calm items earlier more
    first_calm (Late name ∷ items) earlier more = first_calm items earlier more
    first_calm (Given name uses ∷ items) earlier more = first_calm items earlier more
    first_calm (Block uses ∷ items) earlier more = first_calm items earlier more

    -- laid out they are calm exactly where they are so in Java's order
    pub laid_calm : (leads : Bool) (items : List (Item C N)) → calm_items same own no_name (laid store leads items) ≡ calm_items same own (with_unset same own items no_name) items
    laid_calm leads items = first_calm items no_name (laid_rest store leads items) ∙ rest_calm leads (with_unset same own items no_name) items

  -- ---- `this`

  module _ (stored : (name : N) → store name keeps_this ≡ true) where
    keep_step : (name : N) (a b : Bool) → a ≡ b → (store name keeps_this && a) ≡ b
    keep_step name a b h = and_true (store name keeps_this) a (stored name) ∙ h

    rest_keeps : (leads : Bool) (items : List (Item C N)) → items_use (laid_rest store leads items) keeps_this ≡ items_use items keeps_this
    rest_keeps leads [] = refl
    rest_keeps leads (Unset name ∷ items) = rest_keeps (leads && true) items
    rest_keeps leads (Declared name ∷ items) = rest_keeps (leads && true) items
    rest_keeps leads (Constant name is_default ∷ items) = rest_keeps (leads && is_default) items
    rest_keeps true (Default name ∷ items) = rest_keeps true items
    rest_keeps false (Default name ∷ items) = keep_step name _ _ (rest_keeps false items)
    rest_keeps leads (Late name ∷ items) = keep_step name _ _ (rest_keeps (leads && false) items)
    rest_keeps leads (Given name uses ∷ items) = ap (λ b. uses keeps_this && b) (rest_keeps (leads && false) items)
    rest_keeps leads (Block uses ∷ items) = ap (λ b. uses keeps_this && b) (rest_keeps (leads && false) items)

    first_keeps : (names : List N) (items : List (Item C N)) → items_use (first names ++ items) keeps_this ≡ items_use items keeps_this
    first_keeps [] items = refl
    first_keeps (name ∷ names) items = first_keeps names items

    -- laid out they keep `this` exactly where they do so in Java's order
    pub laid_keeps : (leads : Bool) (items : List (Item C N)) → items_use (laid store leads items) keeps_this ≡ items_use items keeps_this
    laid_keeps leads items = first_keeps (unset items) (laid_rest store leads items) ∙ rest_keeps leads items
