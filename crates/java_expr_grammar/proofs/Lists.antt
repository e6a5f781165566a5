-- Lists with commas: what is read is spelled so, and what is spelled so is read.
use Rattle.std.proofs.Common.{◌≡◌, ◌≤◌, ℕ, zero, suc, Bool, true, false, ◌++◌, List, [], ◌∷◌, length, map, Some, None, inl, inr, refl, ap, sym, ◌∙◌, append_assoc, arith, length-append}
use Rattle.std.specs.List.{AllByRecursion}
use Rattle.std.proofs.lemmas.List.{append-nil}
use Rattle.java_tree.specs.declared.tokens.Position.{Position}
use Rattle.java_tree.specs.declared.tokens.Mark.TheVariants as m
use Rattle.java_tree.specs.Seen.{Token}
use Rattle.java_tree.specs.Seen.{Tokens}
use Rattle.java_tree.specs.Trees.{more_tokens, listed, AreBetween}
use Rattle.java_expr_grammar.specs.Reading.{Reader, Listed, comma, inner_comma, more_by, some_by}
use Rattle.java_expr_grammar.proofs.Tools.{bind_some, maybe_is, some_same}

pub comma_only : (ts : Tokens) (c : Position × Tokens) → comma ts ≡ Some c → ts ≡ Token.Sign m.Comma c.0 ∷ c.1
comma_only (Token.Sign m.Comma at ∷ rest) c e = let same : (at, rest) ≡ c = some_same e in ap (λ (x : Position × Tokens). Token.Sign m.Comma x.0 ∷ x.1) same
comma_only _ c e = absurd (cc e)

abbrev pub begins_close : Tokens → Bool
begins_close (Token.Sign m.CloseCurly at ∷ rest) = true
begins_close _ = false

pub inner_only : (ts : Tokens) (c : Position × Tokens) → inner_comma ts ≡ Some c → ts ≡ Token.Sign m.Comma c.0 ∷ c.1
inner_only (Token.Sign m.Comma at ∷ Token.Sign m.CloseCurly rc ∷ rest) c e = absurd (cc e)
inner_only (Token.Sign m.Comma at ∷ rest) c e = let same : (at, rest) ≡ c = some_same e in ap (λ (x : Position × Tokens). Token.Sign m.Comma x.0 ∷ x.1) same
inner_only _ c e = absurd (cc e)

pub inner_takes : (at : Position) (ts : Tokens) → begins_close ts ≡ false → inner_comma (Token.Sign m.Comma at ∷ ts) ≡ Some (at, ts)
inner_takes at (Token.Sign m.CloseCurly rc ∷ rest) h = absurd (cc h)
inner_takes at _ h = refl

-- what a separator reads is a comma
abbrev pub Only : Reader Position → Type 0
Only between = (ts : Tokens) (c : Position × Tokens) → between ts ≡ Some c → ts ≡ Token.Sign m.Comma c.0 ∷ c.1

module _ (A : Type 0) (text : A → Tokens) (P : A → Type 0) where
  -- what `more_by` read after what was found
  pub record More (found : List A) (commas : List Position) (ts : Tokens) (y : Listed A × Tokens) : Type 0 where
    pub xs : List A
    pub ps : List Position
    pub is_found : y.0.0 ≡ found ++ xs
    pub is_commas : y.0.1 ≡ commas ++ ps
    pub same : ts ≡ more_tokens ps (map text xs) ++ y.1
    pub count : length ps ≡ length xs
    pub all : AllByRecursion P xs

  stop : (found : List A) (commas : List Position) (ts : Tokens) (y : Listed A × Tokens) → ((found, commas), ts) ≡ y → More found commas ts y
  stop found commas ts y e = record {
    xs = [];
    ps = [];
    is_found = ap (λ (z : Listed A × Tokens). z.0.0) (sym e) ∙ sym (append-nil found);
    is_commas = ap (λ (z : Listed A × Tokens). z.0.1) (sym e) ∙ sym (append-nil commas);
    same = ap (λ (z : Listed A × Tokens). z.1) e;
    count = refl;
    all = tt;
  }

  abbrev pub Sounds : Reader A → Type 0
  Sounds item = (ts : Tokens) (x : A × Tokens) → item ts ≡ Some x → (ts ≡ text x.0 ++ x.1) × P x.0

  step : (found : List A) (commas : List Position) (ts : Tokens) (y : Listed A × Tokens) (c : Position × Tokens) (x : A × Tokens)
      → ts ≡ Token.Sign m.Comma c.0 ∷ c.1 → c.1 ≡ text x.0 ++ x.1 → P x.0 → More (found ++ x.0 ∷ []) (commas ++ c.0 ∷ []) x.1 y → More found commas ts y
  step found commas ts y c x is_comma is_item good rest = record {
    xs = x.0 ∷ rest.xs;
    ps = c.0 ∷ rest.ps;
    is_found = rest.is_found ∙ append_assoc found (x.0 ∷ []) rest.xs;
    is_commas = rest.is_commas ∙ append_assoc commas (c.0 ∷ []) rest.ps;
    same = is_comma ∙ ap (λ r. Token.Sign m.Comma c.0 ∷ r) (is_item ∙ ap (λ r. text x.0 ++ r) rest.same ∙ sym (append_assoc (text x.0) _ y.1));
    count = ap suc rest.count;
    all = (good, rest.all);
  }

  pub more_sound : (between : Reader Position) (item : Reader A) → Only between → Sounds item
      → (n : ℕ) (found : List A) (commas : List Position) (ts : Tokens) (y : Listed A × Tokens) → more_by between item n found commas ts ≡ Some y → More found commas ts y
  unfolding more_by
  more_sound between item only s zero found commas ts y e = stop found commas ts y (some_same e)
  more_sound between item only s (suc n) found commas ts y e = elim (maybe_is (between ts) _ _ _ e) [
    | inl h ↦ stop found commas ts y (some_same h.1)
    | inr h ↦ let b = bind_some (item h.0.1) _ _ h.2 in
        let i = s h.0.1 b.0 b.1 in
        step found commas ts y h.0 b.0 (only ts h.0 h.1) i.0 i.1
        (more_sound between item only s n (found ++ b.0.0 ∷ []) (commas ++ h.0.0 ∷ []) b.0.1 y b.2)
  ]

  -- what one or more items are
  pub record Some_of (ts : Tokens) (y : Listed A × Tokens) : Type 0 where
    pub same : ts ≡ listed y.0.1 (map text y.0.0) ++ y.1
    pub full : 1 ≤ length y.0.0
    pub between : AreBetween y.0.1 y.0.0
    pub all : AllByRecursion P y.0.0

  made : (a : A) (ts rest : Tokens) (y : Listed A × Tokens) → ts ≡ text a ++ rest → P a → More (a ∷ []) [] rest y → Some_of ts y
  made a ts rest y is_item good m = record {
    same = rw (m.is_found, m.is_commas) (is_item ∙ ap (λ r. text a ++ r) m.same ∙ sym (append_assoc (text a) _ y.1));
    full = rw m.is_found (omega arith);
    between = rw (m.is_found, m.is_commas) m.count;
    all = rw m.is_found (good, m.all);
  }

  pub by_sound : (between : Reader Position) (item : Reader A) → Only between → Sounds item → (ts : Tokens) (y : Listed A × Tokens) → some_by between item ts ≡ Some y → Some_of ts y
  unfolding some_by
  by_sound between item only s ts y e =
      let b = bind_some (item ts) _ _ e in
      let i = s ts b.0 b.1 in
      made b.0.0 ts b.0.1 y i.0 i.1 (more_sound between item only s _ _ _ _ y b.2)

  -- ---- what is spelled so is read, where Q holds of what follows

  pub enough : (ps : List Position) (xs : List A) (rest : Tokens) → length ps ≡ length xs → length xs ≤ length (more_tokens ps (map text xs) ++ rest)
  enough [] [] rest c = omega arith
  enough (p ∷ ps) [] rest c = absurd (omega arith)
  enough [] (x ∷ xs) rest c = absurd (omega arith)
  enough (p ∷ ps) (x ∷ xs) rest c =
      let less : length xs ≤ length (more_tokens ps (map text xs) ++ rest) = enough ps xs rest (omega arith) in
      simp (append_assoc, length-append) (omega (arith, simp length-append at less))

  module _ (Q : Tokens → Type 0) (commas_follow : (at : Position) (rest : Tokens) → Q (Token.Sign m.Comma at ∷ rest)) where
    abbrev pub Reads : Reader A → Type 0
    Reads item = (x : A) → P x → (rest : Tokens) → Q rest → item (text x ++ rest) ≡ Some (x, rest)

    -- A separator reads the comma before an item.
    abbrev pub Separates : Reader Position → Type 0
    Separates between = (x : A) → P x → (at : Position) (rest : Tokens) → between (Token.Sign m.Comma at ∷ (text x ++ rest)) ≡ Some (at, text x ++ rest)

    follow : (ps : List Position) (xs : List A) (rest : Tokens) → Q rest → Q (more_tokens ps (map text xs) ++ rest)
    follow [] xs rest q = q
    follow (p ∷ ps) [] rest q = q
    follow (p ∷ ps) (x ∷ xs) rest q = commas_follow p _

    pub more_again : (between : Reader Position) (item : Reader A) → Separates between → Reads item
        → (xs : List A) (ps : List Position) (n : ℕ) (found : List A) (commas : List Position) (rest : Tokens)
        → length xs ≤ n → length ps ≡ length xs → AllByRecursion P xs → Q rest → between rest ≡ None
        → more_by between item n found commas (more_tokens ps (map text xs) ++ rest) ≡ Some ((found ++ xs, commas ++ ps), rest)
    unfolding more_by
    more_again between item s r [] [] zero found commas rest h c all q none = rw (append-nil found, append-nil commas) refl
    more_again between item s r [] [] (suc n) found commas rest h c all q none = rw (append-nil found, append-nil commas, none) refl
    more_again between item s r [] (p ∷ ps) n found commas rest h c all q none = absurd (omega arith)
    more_again between item s r (x ∷ xs) [] n found commas rest h c all q none = absurd (omega arith)
    more_again between item s r (x ∷ xs) (p ∷ ps) zero found commas rest h c all q none = absurd (omega arith)
    more_again between item s r (x ∷ xs) (p ∷ ps) (suc n) found commas rest h c all q none =
        rw (append_assoc (text x) (more_tokens ps (map text xs)) rest, s x all.0 p (more_tokens ps (map text xs) ++ rest), r x all.0 (more_tokens ps (map text xs) ++ rest) (follow ps xs rest q))
        (more_again between item s r xs ps n (found ++ x ∷ []) (commas ++ p ∷ []) rest (omega arith) (omega arith) all.1 q none
        ∙ rw (append_assoc found (x ∷ []) xs, append_assoc commas (p ∷ []) ps) refl)

    pub by_again : (between : Reader Position) (item : Reader A) → Separates between → Reads item → (x : A) (xs : List A) (ps : List Position) (rest : Tokens)
        → length ps ≡ length xs → AllByRecursion P (x ∷ xs) → Q rest → between rest ≡ None
        → some_by between item (listed ps (map text (x ∷ xs)) ++ rest) ≡ Some ((x ∷ xs, ps), rest)
    unfolding some_by
    by_again between item s r x xs ps rest c all q none =
        rw (append_assoc (text x) (more_tokens ps (map text xs)) rest, r x all.0 (more_tokens ps (map text xs) ++ rest) (follow ps xs rest q))
        (more_again between item s r xs ps _ (x ∷ []) [] rest (enough ps xs rest c) c all.1 q none)

-- ---- the two separators

module _ (A : Type 0) (item : Reader A) (text : A → Tokens) (P : A → Type 0) where
  pub some_sound : Sounds A text P item → (ts : Tokens) (y : Listed A × Tokens) → some_by comma item ts ≡ Some y → Some_of A text P ts y
  some_sound s ts y e = by_sound A text P comma item comma_only s ts y e

  pub inner_sound : Sounds A text P item → (ts : Tokens) (y : Listed A × Tokens) → some_by inner_comma item ts ≡ Some y → Some_of A text P ts y
  inner_sound s ts y e = by_sound A text P inner_comma item inner_only s ts y e

  module _ (Q : Tokens → Type 0) (commas_follow : (at : Position) (rest : Tokens) → Q (Token.Sign m.Comma at ∷ rest)) where
    pub some_again : Reads A text P Q commas_follow item → (x : A) (xs : List A) (ps : List Position) (rest : Tokens)
        → length ps ≡ length xs → AllByRecursion P (x ∷ xs) → Q rest → comma rest ≡ None
        → some_by comma item (listed ps (map text (x ∷ xs)) ++ rest) ≡ Some ((x ∷ xs, ps), rest)
    some_again r x xs ps rest c all q none = by_again A text P Q commas_follow comma item (λ x good at rest. refl) r x xs ps rest c all q none

    -- where no item begins with `}`
    pub inner_again : Reads A text P Q commas_follow item → ((x : A) → P x → (rest : Tokens) → begins_close (text x ++ rest) ≡ false)
        → (x : A) (xs : List A) (ps : List Position) (rest : Tokens)
        → length ps ≡ length xs → AllByRecursion P (x ∷ xs) → Q rest → inner_comma rest ≡ None
        → some_by inner_comma item (listed ps (map text (x ∷ xs)) ++ rest) ≡ Some ((x ∷ xs, ps), rest)
    inner_again r opens x xs ps rest c all q none =
        by_again A text P Q commas_follow inner_comma item (λ x good at rest. inner_takes at (text x ++ rest) (opens x good rest)) r x xs ps rest c all q none
