-- How the cutting of a text goes on, and that a text is cut in one way.
use Rattle.std.proofs.Common.{◌≡◌, ◌≤◌, ℕ, true, false, List, [], ◌∷◌, ◌++◌, length, arith, refl, sym, ◌∙◌, ap, subst, append_assoc, Option}
use Rattle.std.proofs.lemmas.List.{append-nil}
use Rattle.std.proofs.lemmas.Bool.{false≢true}
use Rattle.java_tree.specs.declared.tokens.JToken.{JToken}
use Rattle.java_tree.specs.declared.tokens.Comment as remarks
use Rattle.java_lexer.specs.declared.found.LexFault.{LexFault}
use Rattle.java_lexer.specs.declared.found.Piece.{Piece}
use Rattle.java_lexer.specs.declared.found.Piece.TheVariants.{End, Fault, White, Comment, Token}
use Rattle.java_lexer.specs.declared.cutting.Before.{Before}
use Rattle.java_lexer.specs.declared.cutting.Before.TheVariants.{Other}
use Rattle.java_characters.specs.Letters.{Letters, text_of}
use Rattle.java_lexer.specs.Found.{Cut, is_last}
use Rattle.java_lexer.specs.Cutting.{next_piece, before_next, Cuts, token_in, comment_in, tokens_of, comments_of, fault_of, Reading}

-- all pieces of a text, where ps are the last of them
abbrev pub Completes : Letters → List JToken → List remarks.Comment → List Piece → Piece → Letters → Type 0
Completes text tokens comments ps last rest =
    (all : List Piece) × Cuts Other text all last rest × (tokens ++ tokens_of ps ≡ tokens_of all) × (comments ++ comments_of ps ≡ comments_of all)

-- what completes the rest completes the whole
abbrev pub GoesOn : Letters → Before → Letters → List JToken → List remarks.Comment → Type 0
GoesOn text before t tokens comments =
    (ps : List Piece) (last : Piece) (rest : Letters) → Cuts before t ps last rest → Completes text tokens comments ps last rest

pub begins : (text : Letters) → GoesOn text Other text [] []
begins text ps last rest t = (ps, t, refl, refl)

pub goes_on : (text t more : Letters) (before : Before) (tokens : List JToken) (comments : List remarks.Comment) (p : Piece) →
    GoesOn text before t tokens comments → next_piece before t ≡ record { piece = p; rest = more } → is_last p ≡ false →
    GoesOn text (before_next before p) more (tokens ++ token_in p) (comments ++ comment_in p)
goes_on text t more before tokens comments p g e n ps last rest c =
    let all = g (p ∷ ps) last rest (more, e, n, c) in
    (all.0, all.1, append_assoc tokens (token_in p) (tokens_of ps) ∙ all.2, append_assoc comments (comment_in p) (comments_of ps) ∙ all.3)

-- a piece is one token at most
pub one_token : (p : Piece) → length (token_in p) ≤ 1
one_token End = omega arith
one_token (Fault f) = omega arith
one_token White = omega arith
one_token (Comment c) = omega arith
one_token (Token t) = omega arith

pub ends : (bytes : List ℕ) (t more : Letters) (before : Before) (tokens : List JToken) (comments : List remarks.Comment) (p : Piece) →
    GoesOn (text_of bytes) before t tokens comments → next_piece before t ≡ record { piece = p; rest = more } → is_last p ≡ true →
    Reading bytes tokens comments (fault_of p more)
ends bytes t more before tokens comments p g e n =
    let all = g [] p more (e, n) in
    record {
      pieces = all.0;
      last = p;
      rest = more;
      cuts = all.1;
      tokens_are = sym (append-nil tokens) ∙ all.2;
      comments_are = sym (append-nil comments) ∙ all.3;
      fault_is = refl;
    }

pub record SameCut (ps qs : List Piece) (p q : Piece) (r s : Letters) : Type 0 where
  pub pieces : ps ≡ qs
  pub last : p ≡ q
  pub rest : r ≡ s

-- A text is cut in one way.
pub cut_once : (before : Before) (t : Letters) (ps qs : List Piece) (p q : Piece) (r s : Letters) → Cuts before t ps p r → Cuts before t qs q s → SameCut ps qs p q r s
cut_once before t [] [] p q r s a b =
    let e = sym a.0 ∙ b.0 in
    record { pieces = refl; last = ap (λ (c : Cut). c.piece) e; rest = ap (λ (c : Cut). c.rest) e }
cut_once before t [] (x ∷ qs) p q r s a b = absurd (false≢true (sym b.2 ∙ (ap (λ (c : Cut). is_last c.piece) (sym b.1 ∙ a.0) ∙ a.1)))
cut_once before t (x ∷ ps) [] p q r s a b = absurd (false≢true (sym a.2 ∙ (ap (λ (c : Cut). is_last c.piece) (sym a.1 ∙ b.0) ∙ b.1)))
cut_once before t (x ∷ ps) (y ∷ qs) p q r s a b =
    let e = sym b.1 ∙ a.1 in
    let piece : y ≡ x = ap (λ (c : Cut). c.piece) e in
    let more : b.0 ≡ a.0 = ap (λ (c : Cut). c.rest) e in
    let b' : Cuts (before_next before x) b.0 qs q s = subst (λ z. Cuts (before_next before z) b.0 qs q s) piece b.3 in
    let b'' : Cuts (before_next before x) a.0 qs q s = subst (λ z. Cuts (before_next before x) z qs q s) more b' in
    let same = cut_once (before_next before x) a.0 ps qs p q r s a.3 b'' in
    record { pieces = ap (λ zs. x ∷ zs) same.pieces ∙ ap (λ z. z ∷ qs) (sym piece); last = same.last; rest = same.rest }

pub record SameReading (ts us : List JToken) (cs ds : List remarks.Comment) (f g : Option LexFault) : Type 0 where
  pub tokens : ts ≡ us
  pub comments : cs ≡ ds
  pub fault : f ≡ g

-- A file is read in one way.
pub reading_once : (bytes : List ℕ) (ts us : List JToken) (cs ds : List remarks.Comment) (f g : Option LexFault) →
    Reading bytes ts cs f → Reading bytes us ds g → SameReading ts us cs ds f g
reading_once bytes ts us cs ds f g x y =
    let same = cut_once Other (text_of bytes) x.pieces y.pieces x.last y.last x.rest y.rest x.cuts y.cuts in
    record {
      tokens = x.tokens_are ∙ (ap tokens_of same.pieces ∙ sym y.tokens_are);
      comments = x.comments_are ∙ (ap comments_of same.pieces ∙ sym y.comments_are);
      fault = x.fault_is ∙ (ap (λ p. fault_of p x.rest) same.last ∙ (ap (λ r. fault_of y.last r) same.rest ∙ sym y.fault_is));
    }
