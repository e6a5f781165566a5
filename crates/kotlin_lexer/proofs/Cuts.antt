-- How the cutting of a text goes on, and that a text is cut in one way.
use Rattle.std.proofs.Common.{◌≡◌, ◌≤◌, ℕ, true, false, List, [], ◌∷◌, ◌++◌, length, arith, refl, sym, ◌∙◌, ap, subst, append_assoc, Option}
use Rattle.std.proofs.lemmas.Bool.{false≢true}
use Rattle.kotlin_tree.specs.declared.tokens.Gap.{Gap}
use Rattle.kotlin_tree.specs.declared.tokens.Gap.TheVariants as gaps
use Rattle.kotlin_tree.specs.declared.tokens.KToken.{KToken}
use Rattle.kotlin_characters.specs.Letters.{Letters, text_of}
use Rattle.kotlin_lexer.specs.declared.found.LexFault.{LexFault}
use Rattle.kotlin_lexer.specs.declared.found.Piece.{Piece}
use Rattle.kotlin_lexer.specs.declared.found.Piece.TheVariants.{End, Fault, Blank, LineEnd, Semicolon, Token}
use Rattle.kotlin_lexer.specs.Found.{Cut, is_last}
use Rattle.kotlin_lexer.specs.Nesting.{Open, is_listed}
use Rattle.kotlin_lexer.specs.Pieces.{piece_of}
use Rattle.kotlin_lexer.specs.Cutting.{gap_next, open_next, Cuts, token_in, tokens_of, fault_of, Reading}

-- all pieces of a text, where ps are the last of them
abbrev pub Completes : Letters → List KToken → Open → Gap → List Piece → Piece → Letters → Type 0
Completes text tokens opened gap ps last rest =
    (all : List Piece) × Cuts text all last rest × (tokens ++ tokens_of opened gap ps last ≡ tokens_of [] gaps.Plain all last)

-- what completes the rest completes the whole
abbrev pub GoesOn : Letters → Letters → List KToken → Open → Gap → Type 0
GoesOn text t tokens opened gap = (ps : List Piece) (last : Piece) (rest : Letters) → Cuts t ps last rest → Completes text tokens opened gap ps last rest

pub begins : (text : Letters) → GoesOn text text [] [] gaps.Plain
begins text ps last rest t = (ps, t, refl)

pub goes_on : (text t more : Letters) (tokens : List KToken) (opened : Open) (gap : Gap) (p : Piece) →
    GoesOn text t tokens opened gap → piece_of t ≡ record { piece = p; rest = more } → is_last p ≡ false →
    GoesOn text more (tokens ++ token_in gap p) (open_next opened p) (gap_next (is_listed opened) gap p)
goes_on text t more tokens opened gap p g e n ps last rest c =
    let all = g (p ∷ ps) last rest (more, e, n, c) in
    (all.0, all.1, append_assoc tokens (token_in gap p) (tokens_of (open_next opened p) (gap_next (is_listed opened) gap p) ps last) ∙ all.2)

-- a piece is one token at most
pub one_token : (gap : Gap) (p : Piece) → length (token_in gap p) ≤ 1
one_token gap (End q) = omega arith
one_token gap (Fault f) = omega arith
one_token gap Blank = omega arith
one_token gap LineEnd = omega arith
one_token gap Semicolon = omega arith
one_token gap (Token kind q) = omega arith

pub ends : (bytes : List ℕ) (t more : Letters) (tokens : List KToken) (opened : Open) (gap : Gap) (p : Piece) →
    GoesOn (text_of bytes) t tokens opened gap → piece_of t ≡ record { piece = p; rest = more } → is_last p ≡ true →
    Reading bytes (tokens ++ token_in gap p) (fault_of p)
ends bytes t more tokens opened gap p g e n =
    let all = g [] p more (e, n) in
    record { pieces = all.0; last = p; rest = more; cuts = all.1; tokens_are = all.2; fault_is = refl }

pub record SameCut (ps qs : List Piece) (p q : Piece) (r s : Letters) : Type 0 where
  pub pieces : ps ≡ qs
  pub last : p ≡ q
  pub rest : r ≡ s

-- A text is cut in one way.
pub cut_once : (t : Letters) (ps qs : List Piece) (p q : Piece) (r s : Letters) → Cuts t ps p r → Cuts t qs q s → SameCut ps qs p q r s
cut_once t [] [] p q r s a b =
    let e = sym a.0 ∙ b.0 in
    record { pieces = refl; last = ap (λ (c : Cut). c.piece) e; rest = ap (λ (c : Cut). c.rest) e }
cut_once t [] (x ∷ qs) p q r s a b = absurd (false≢true (sym b.2 ∙ (ap (λ (c : Cut). is_last c.piece) (sym b.1 ∙ a.0) ∙ a.1)))
cut_once t (x ∷ ps) [] p q r s a b = absurd (false≢true (sym a.2 ∙ (ap (λ (c : Cut). is_last c.piece) (sym a.1 ∙ b.0) ∙ b.1)))
cut_once t (x ∷ ps) (y ∷ qs) p q r s a b =
    let e = sym b.1 ∙ a.1 in
    let piece : y ≡ x = ap (λ (c : Cut). c.piece) e in
    let more : b.0 ≡ a.0 = ap (λ (c : Cut). c.rest) e in
    let b' : Cuts a.0 qs q s = subst (λ z. Cuts z qs q s) more b.3 in
    let same = cut_once a.0 ps qs p q r s a.3 b' in
    record { pieces = ap (λ zs. x ∷ zs) same.pieces ∙ ap (λ z. z ∷ qs) (sym piece); last = same.last; rest = same.rest }

pub record SameReading (ts us : List KToken) (f g : Option LexFault) : Type 0 where
  pub tokens : ts ≡ us
  pub fault : f ≡ g

-- A file is read in one way.
pub reading_once : (bytes : List ℕ) (ts us : List KToken) (f g : Option LexFault) → Reading bytes ts f → Reading bytes us g → SameReading ts us f g
reading_once bytes ts us f g x y =
    let same = cut_once (text_of bytes) x.pieces y.pieces x.last y.last x.rest y.rest x.cuts y.cuts in
    record {
      tokens = x.tokens_are ∙ (ap (λ ps. tokens_of [] gaps.Plain ps x.last) same.pieces ∙ (ap (tokens_of [] gaps.Plain y.pieces) same.last ∙ sym y.tokens_are));
      fault = x.fault_is ∙ (ap fault_of same.last ∙ sym y.fault_is);
    }
