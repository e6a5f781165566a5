-- What printing comes to.
use Rattle.std.proofs.Common.{◌≡◌, ℕ, ◌+◌, ◌*◌, suc, zero, Bool, true, false, List, [], ◌∷◌, ◌++◌, map, refl, ap, sym, ◌∙◌, append_assoc, ◌<◌, length, take, get_or, arith}
use Rattle.std.proofs.lemmas.List.{append-nil, map-append, take_more}
use Rattle.kotlin_layout.specs.declared.glyphs.Glyph.{Glyph}
use Rattle.kotlin_layout.specs.declared.glyphs.Glyph.TheVariants as g
use Rattle.kotlin_layout.specs.Roles.{Role, Roles, Glyphs, fixed, more_roles, listed, joined, lines, between}
use Rattle.kotlin_layout.specs.Layout.{Printed, with_more, indentation, laid, laid_role, laid_glyph}

pub laid_nil : (p : Printed) → laid [] p ≡ p
unfolding laid
laid_nil p = refl

pub laid_cons : (x : Role) (xs : Roles) (p : Printed) → laid (x ∷ xs) p ≡ laid xs (laid_role x p)
unfolding laid
laid_cons x xs p = refl

pub laid_append : (xs ys : Roles) (p : Printed) → laid (xs ++ ys) p ≡ laid ys (laid xs p)
unfolding laid
laid_append [] ys p = refl
laid_append (x ∷ xs) ys p = laid_append xs ys (laid_role x p)

pub ruleset walks = (laid_nil, laid_cons, laid_append)

nothing_else : (part : Roles) (p : Printed) → laid (part ++ []) p ≡ laid part p
nothing_else part p = ap (λ z. laid z p) (append-nil part)

abbrev pub is_nil : {A : Type 0} → List A → Bool
is_nil [] = true
is_nil (x ∷ xs) = false

not_nil : {A : Type 0} (xs : List A) (x : A) → false ≡ is_nil (xs ++ x ∷ [])
not_nil [] x = refl
not_nil (y ∷ xs) x = refl

-- ---- one part more of a list

more_snoc : (sep : Glyphs) (parts : List Roles) (part : Roles) → more_roles sep (parts ++ part ∷ []) ≡ more_roles sep parts ++ (fixed sep ++ (part ++ []))
more_snoc sep [] part = refl
more_snoc sep (x ∷ parts) part =
    ap (λ z. fixed sep ++ (x ++ z)) (more_snoc sep parts part)
    ∙ ap (λ z. fixed sep ++ z) (sym (append_assoc x (more_roles sep parts) (fixed sep ++ (part ++ []))))
    ∙ sym (append_assoc (fixed sep) (x ++ more_roles sep parts) (fixed sep ++ (part ++ [])))

listed_more : {A : Type 0} (sep : Glyphs) (f : A → Roles) (xs : List A) (x : A) (p q : Printed)
    → q ≡ laid (listed sep (map f xs)) p → laid (f x) (laid (between (is_nil xs) sep) q) ≡ laid (listed sep (map f (xs ++ x ∷ []))) p
listed_more sep f [] x p q h = ap (λ z. laid (f x) z) (laid_nil q ∙ h ∙ laid_nil p) ∙ sym (nothing_else (f x) p)
listed_more sep f (y ∷ xs) x p q h =
    ap (λ z. laid (f x) (laid (fixed sep) z)) h
    ∙ sym (nothing_else (f x) (laid (fixed sep) (laid (f y ++ more_roles sep (map f xs)) p)))
    ∙ sym (laid_append (fixed sep) (f x ++ []) (laid (f y ++ more_roles sep (map f xs)) p))
    ∙ sym (laid_append (f y ++ more_roles sep (map f xs)) (fixed sep ++ (f x ++ [])) p)
    ∙ ap (λ z. laid z p) (append_assoc (f y) (more_roles sep (map f xs)) (fixed sep ++ (f x ++ []))
    ∙ ap (λ z. f y ++ z) (sym (more_snoc sep (map f xs) (f x)) ∙ ap (λ z. more_roles sep z) (sym (map-append f xs (x ∷ [])))))

-- a turn of a loop over parts with a separator between them
pub one_more : {A : Type 0} (sep : Glyphs) (f : A → Roles) (list : List A) (i : ℕ) (x : A) (b : Bool) (p q u v : Printed)
    → i < length list → x ≡ get_or list i x → (q ≡ laid (listed sep (map f (take i list))) p) × (b ≡ is_nil (take i list))
    → u ≡ laid (between b sep) q → v ≡ laid (f x) u
    → (v ≡ laid (listed sep (map f (take (i + 1) list))) p) × (false ≡ is_nil (take (i + 1) list))
one_more sep f list i x b p q u v lt is inv first then =
    let more : take (i + 1) list ≡ take i list ++ x ∷ [] = take_more list i x lt ∙ ap (λ z. take i list ++ z ∷ []) (sym is) in
    rw more (
      then ∙ ap (λ z. laid (f x) z) (first ∙ ap (λ b. laid (between b sep) q) inv.1) ∙ listed_more sep f (take i list) x p q inv.0,
      not_nil (take i list) x,
    )

joined_snoc : (parts : List Roles) (part : Roles) → joined (parts ++ part ∷ []) ≡ joined parts ++ part
joined_snoc [] part = append-nil part
joined_snoc (x ∷ parts) part = ap (λ z. x ++ z) (joined_snoc parts part) ∙ sym (append_assoc x (joined parts) part)

lines_snoc : (parts : List Roles) (part : Roles) → lines (parts ++ part ∷ []) ≡ lines parts ++ (fixed (g.Line ∷ []) ++ part)
lines_snoc [] part = ap (λ z. fixed (g.Line ∷ []) ++ z) (append-nil part)
lines_snoc (x ∷ parts) part =
    ap (λ z. fixed (g.Line ∷ []) ++ (x ++ z)) (lines_snoc parts part)
    ∙ ap (λ z. fixed (g.Line ∷ []) ++ z) (sym (append_assoc x (lines parts) (fixed (g.Line ∷ []) ++ part)))

-- a turn of a loop over parts
pub each_more : {A : Type 0} (f : A → Roles) (list : List A) (i : ℕ) (x : A) (p q v : Printed)
    → i < length list → x ≡ get_or list i x → q ≡ laid (joined (map f (take i list))) p → v ≡ laid (f x) q → v ≡ laid (joined (map f (take (i + 1) list))) p
each_more f list i x p q v lt is inv then =
    let more : take (i + 1) list ≡ take i list ++ x ∷ [] = take_more list i x lt ∙ ap (λ z. take i list ++ z ∷ []) (sym is) in
    rw more (
    then ∙ ap (λ z. laid (f x) z) inv ∙ sym (laid_append (joined (map f (take i list))) (f x) p)
    ∙ ap (λ z. laid z p) (sym (joined_snoc (map f (take i list)) (f x)) ∙ ap joined (sym (map-append f (take i list) (x ∷ []))))
    )

-- a turn of a loop over parts on lines of their own
pub line_more : {A : Type 0} (f : A → Roles) (list : List A) (i : ℕ) (x : A) (p q u v : Printed)
    → i < length list → x ≡ get_or list i x → q ≡ laid (lines (map f (take i list))) p → u ≡ laid (fixed (g.Line ∷ [])) q → v ≡ laid (f x) u
    → v ≡ laid (lines (map f (take (i + 1) list))) p
line_more f list i x p q u v lt is inv line then =
    let more : take (i + 1) list ≡ take i list ++ x ∷ [] = take_more list i x lt ∙ ap (λ z. take i list ++ z ∷ []) (sym is) in
    rw more (
    then ∙ ap (λ z. laid (f x) z) (line ∙ ap (λ z. laid (fixed (g.Line ∷ [])) z) inv)
    ∙ sym (laid_append (fixed (g.Line ∷ [])) (f x) (laid (lines (map f (take i list))) p))
    ∙ sym (laid_append (lines (map f (take i list))) (fixed (g.Line ∷ []) ++ f x) p)
    ∙ ap (λ z. laid z p) (sym (lines_snoc (map f (take i list)) (f x)) ∙ ap lines (sym (map-append f (take i list) (x ∷ []))))
    )

-- a turn of a loop over glyphs
pub glyph_more : (list : Glyphs) (i : ℕ) (x : Glyph) (p q v : Printed)
    → i < length list → x ≡ get_or list i x → q ≡ laid (fixed (take i list)) p → v ≡ laid_glyph x q → v ≡ laid (fixed (take (i + 1) list)) p
glyph_more list i x p q v lt is inv then =
    let more : take (i + 1) list ≡ take i list ++ x ∷ [] = take_more list i x lt ∙ ap (λ z. take i list ++ z ∷ []) (sym is) in
    rw more (
    then ∙ ap (λ z. laid_glyph x z) inv
    ∙ sym (laid_cons (Role.Fixed x) [] (laid (fixed (take i list)) p) ∙ laid_nil (laid_glyph x (laid (fixed (take i list)) p)))
    ∙ sym (laid_append (fixed (take i list)) (Role.Fixed x ∷ []) p)
    ∙ ap (λ z. laid z p) (sym (map-append Role.Fixed (take i list) (x ∷ [])))
    )

-- ---- texts

-- one text behind another
pub twice : (a b : List ℕ) (p : Printed) → with_more b (with_more a p) ≡ with_more (a ++ b) p
twice a b p = ap (λ z. record { text = z; levels = p.levels }) (append_assoc p.text a b)
