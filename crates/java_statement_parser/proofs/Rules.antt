-- Reading, a step at a time.
use Rattle.std.proofs.Common.{◌≡◌, ℕ, true, false, List, [], ◌∷◌, Some, None, refl}
use Rattle.java_tree.specs.declared.tokens.Position.{Position}
use Rattle.java_tree.specs.declared.tokens.Mark.TheVariants as m
use Rattle.java_tree.specs.declared.tokens.Keyword.TheVariants as w
use Rattle.java_tree.specs.Seen.{Token, Tokens}
use Rattle.java_tree.specs.Trees.{any_level}
use Rattle.java_tree.specs.declared.types.JQualified.{JQualified}
use Rattle.java_expr_grammar.specs.Reading.{◌>>=◌, maybe, whole, is_some, colon, ident, dot, close_square, read}
use Rattle.java_declaration_parser.proofs.LawsToCite.{whole_end, whole_more}
use Rattle.java_statement_grammar.specs.declared.statements.JLock.TheVariants as lock
use Rattle.java_statement_grammar.specs.Reading.{declares, walks, label_of, value_of, class_of}
use Rattle.java_declaration_parser.specs.Found.{is_end}
use Rattle.java_statement_parser.specs.Trees.{class_word}

-- ---- looks ahead

pub declares_square : (o : Position) (ts : Tokens) → declares (Token.Sign m.OpenSquare o ∷ ts) ≡ is_some (close_square ts)
declares_square o [] = refl
declares_square o (Token.Sign m.CloseSquare c ∷ ts) = refl
declares_square o (_ ∷ ts) = refl

pub walks_is : (ts : Tokens) → walks ts ≡ maybe (ident ts) false (λ x. is_some (colon x.1))
walks_is [] = refl
walks_is (Token.Id n at ∷ []) = refl
walks_is (Token.Id n at ∷ Token.Sign m.Colon p ∷ ts) = refl
walks_is (Token.Id n at ∷ _ ∷ ts) = refl
walks_is (_ ∷ ts) = refl

-- ---- at the end

pub label_end : (n : List ℕ) (at : Position) (ts : Tokens) → is_end ts ≡ true → label_of (Token.Id n at ∷ ts) ≡ Some (Some (record { name = n; at = at }))
label_end n at [] e = refl
label_end n at (t ∷ ts) e = absurd (cc e)

pub label_more : (n : List ℕ) (at : Position) (ts : Tokens) → is_end ts ≡ false → label_of (Token.Id n at ∷ ts) ≡ None
label_more n at [] e = absurd (cc e)
label_more n at (t ∷ ts) e = refl

pub value_end : (d : ℕ) (ts : Tokens) → is_end ts ≡ true → value_of d ts ≡ Some None
value_end d [] e = refl
value_end d (t ∷ ts) e = absurd (cc e)

pub value_more : (d : ℕ) (ts : Tokens) → is_end ts ≡ false → value_of d ts ≡ (whole (read d any_level ts) >>= λ x. Some (Some x))
value_more d [] e = absurd (cc e)
value_more d (t ∷ ts) e = refl

-- ---- the lock that a class is

class_at : (q : JQualified) (d : Position) (ts : Tokens) → class_of q (Token.Sign m.Dot d ∷ ts) ≡ (whole (class_word ts) >>= λ c. Some (lock.Class q d c))
class_at q d [] = refl
class_at q d (Token.Word w.Class at ∷ []) = refl
class_at q d (Token.Word w.Class at ∷ t ∷ ts) = refl
class_at q d (_ ∷ ts) = refl

pub class_is : (q : JQualified) (ts : Tokens) → class_of q ts ≡ (dot ts >>= λ d. whole (class_word d.1) >>= λ c. Some (lock.Class q d.0 c))
class_is q [] = refl
class_is q (Token.Sign m.Dot d ∷ ts) = class_at q d ts
class_is q (_ ∷ ts) = refl

pub ruleset looks = (declares_square, walks_is)

pub ruleset ends = (whole_end, whole_more, label_end, label_more, value_end, value_more)

pub ruleset locks = (class_is, whole_end, whole_more)
