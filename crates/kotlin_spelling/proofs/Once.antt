-- Bytes spell one file at most, or have one first fault.
use Rattle.std.proofs.Common.{◌≡◌, ℕ, List, [], ◌∷◌, Some, None, inl, inr, refl, ap, sym, ◌∙◌, subst, slice_get}
use Rattle.grammar.proofs.LawsToCite.{bind_some, some_same}
use Rattle.j2k_base.specs.declared.places.Fault.{Fault}
use Rattle.kotlin_tree.specs.declared.places.Position.{Position}
use Rattle.kotlin_tree.specs.declared.tokens.KToken.{KToken}
use Rattle.kotlin_tree.specs.declared.files.KClass.{KClass}
use Rattle.kotlin_tree.specs.declared.files.KFile.{KFile}
use Rattle.kotlin_brackets.specs.declared.flaws.Flaw.{Flaw}
use Rattle.kotlin_brackets.specs.Brackets.{IsFirst, IsFirstFlaw}
use Rattle.kotlin_brackets.proofs.LawsToCite.{one_first}
use Rattle.kotlin_lexer.specs.declared.found.LexFault.{LexFault}
use Rattle.kotlin_lexer.specs.Cutting.{Lexes, Faults}
use Rattle.kotlin_lexer.specs.Lexing.{fault_in}
use Rattle.kotlin_lexer.proofs.LawsToCite.{reading_once}
use Rattle.kotlin_grammar.specs.Reading.{class_of, first_of}
use Rattle.kotlin_grammar.specs.Files.{Tokens, Content, SpellsFile, apart, begun, pieces, classes_of, content_of, flaw_of, flaw_by, head_flaw, first_flaw}
use Rattle.kotlin_grammar.proofs.LawsToCite.{pieces_read, one_file as one_content}
use Rattle.kotlin_spelling.specs.Spelling.{before_end, file_of, Spells, flaw_number, fault_at, unspelled_number, NoTokens, NoPairs, NoTree, FirstFault}

lexed_once : (bytes : List ℕ) (ts us : Tokens) → Lexes bytes ts → Lexes bytes us → ts ≡ us
lexed_once bytes ts us x z = (reading_once bytes ts us None None x z).tokens

lexed_whole : (bytes : List ℕ) (ts : Tokens) (f : LexFault) → Lexes bytes ts → Faults bytes f → ⊥
lexed_whole bytes ts f x z =
    let e : None ≡ Some f = (reading_once bytes ts z.0 None (Some f) x z.1).fault in cc

lexical_once : (bytes : List ℕ) (f g : LexFault) → Faults bytes f → Faults bytes g → f ≡ g
lexical_once bytes f g x z =
    let e : Some f ≡ Some g = (reading_once bytes x.0 z.0 (Some f) (Some g) x.1 z.1).fault in cc

pub one_file : (path bytes : List ℕ) (x z : KFile) → Spells path x bytes → Spells path z bytes → x ≡ z
one_file path bytes x z s r =
    let e : s.tokens ≡ r.tokens = lexed_once bytes s.tokens r.tokens s.lexes r.lexes in
    let other : SpellsFile r.content (before_end s.tokens) = subst (λ ts. SpellsFile r.content (before_end ts)) (sym e) r.spelled in
    s.is ∙ ap (file_of path) (one_content s.content r.content (before_end s.tokens) s.spelled other) ∙ sym r.is

-- ---- what is spelled has no flaw

whole : (cs : List KClass) (ps : List Tokens) → classes_of ps ≡ Some cs → flaw_of ps ≡ None
unfolding classes_of flaw_of
whole cs [] h = refl
whole cs ([] ∷ ps) h = whole cs ps h
whole cs ((t ∷ ts) ∷ ps) h =
    let a = bind_some (class_of (apart (t ∷ ts))) _ _ h in
    let b = bind_some (classes_of ps) _ _ a.2 in
    ap (λ o. flaw_by o t.position (flaw_of ps)) a.1 ∙ whole b.0 ps b.1

no_flaw : (x : Content) (ps : List Tokens) → content_of ps ≡ Some x → first_flaw ps ≡ None
unfolding content_of first_flaw
no_flaw x [] h = absurd (cc h)
no_flaw x (p ∷ ps) h =
    let a = bind_some (first_of (begun p)) _ _ h in
    let b = bind_some (classes_of ps) _ _ a.2 in
    ap (λ o. head_flaw o p (flaw_of ps)) a.1 ∙ whole b.0 ps b.1

spelled_whole : (x : Content) (ts : Tokens) (p : Position) → SpellsFile x ts → first_flaw (pieces 0 [] ts) ≡ Some p → ⊥
spelled_whole x ts p s h =
    let e : Some p ≡ None = sym h ∙ no_flaw x (pieces 0 [] ts) (pieces_read x (pieces 0 [] ts) s) in cc

paired_whole : (ts : Tokens) (n : ℕ) (w : Flaw) → IsFirstFlaw ts None → IsFirst ts n w → ⊥
paired_whole ts n w s h = s n w h.0

pub no_fault : (path bytes : List ℕ) (x : KFile) (f : Fault) → Spells path x bytes → FirstFault path bytes f → ⊥
no_fault path bytes x f s (inl r) = lexed_whole bytes s.tokens r.found s.lexes r.first
no_fault path bytes x f s (inr (inl r)) =
    let e : s.tokens ≡ r.tokens = lexed_once bytes s.tokens r.tokens s.lexes r.lexes in
    paired_whole r.tokens r.number r.flaw (subst (λ ts. IsFirstFlaw ts None) e s.paired) r.first
no_fault path bytes x f s (inr (inr r)) =
    let e : s.tokens ≡ r.tokens = lexed_once bytes s.tokens r.tokens s.lexes r.lexes in
    spelled_whole s.content (before_end r.tokens) r.place (subst (λ ts. SpellsFile s.content (before_end ts)) e s.spelled) r.first

-- ---- one first fault

token_once : (ts : Tokens) (n m : ℕ) (a b : KToken) → n ≡ m → slice_get ts n ≡ Some a → slice_get ts m ≡ Some b → a ≡ b
token_once ts n m a b e x z = some_same (sym x ∙ ap (slice_get ts) e ∙ z)

pairs_once : (path bytes : List ℕ) (f g : Fault) → NoPairs path bytes f → NoPairs path bytes g → f ≡ g
pairs_once path bytes f g s r =
    let e : r.tokens ≡ s.tokens = lexed_once bytes r.tokens s.tokens r.lexes s.lexes in
    let same = one_first s.tokens s.number r.number s.flaw r.flaw s.first (subst (λ ts. IsFirst ts r.number r.flaw) e r.first) in
    let token = token_once s.tokens s.number r.number s.token r.token same.0 s.there (subst (λ ts. slice_get ts r.number ≡ Some r.token) e r.there) in
    s.is ∙ ap (λ w. fault_at path (flaw_number w) s.token.position) same.1 ∙ ap (λ (t : KToken). fault_at path (flaw_number r.flaw) t.position) token ∙ sym r.is

tree_once : (path bytes : List ℕ) (f g : Fault) → NoTree path bytes f → NoTree path bytes g → f ≡ g
tree_once path bytes f g s r =
    let e : s.tokens ≡ r.tokens = lexed_once bytes s.tokens r.tokens s.lexes r.lexes in
    let place : s.place ≡ r.place = some_same (sym s.first ∙ ap (λ ts. first_flaw (pieces 0 [] (before_end ts))) e ∙ r.first) in
    s.is ∙ ap (fault_at path unspelled_number) place ∙ sym r.is

tokens_once : (path bytes : List ℕ) (f g : Fault) → NoTokens path bytes f → NoTokens path bytes g → f ≡ g
tokens_once path bytes f g s r = s.is ∙ ap (fault_in path) (lexical_once bytes s.found r.found s.first r.first) ∙ sym r.is

pairs_apart : (path bytes : List ℕ) (f g : Fault) → NoPairs path bytes f → NoTree path bytes g → ⊥
pairs_apart path bytes f g s r =
    let e : s.tokens ≡ r.tokens = lexed_once bytes s.tokens r.tokens s.lexes r.lexes in
    paired_whole r.tokens s.number s.flaw r.paired (subst (λ ts. IsFirst ts s.number s.flaw) e s.first)

pub one_fault : (path bytes : List ℕ) (f g : Fault) → FirstFault path bytes f → FirstFault path bytes g → f ≡ g
one_fault path bytes f g (inl s) (inl r) = tokens_once path bytes f g s r
one_fault path bytes f g (inl s) (inr (inl r)) = absurd (lexed_whole bytes r.tokens s.found r.lexes s.first)
one_fault path bytes f g (inl s) (inr (inr r)) = absurd (lexed_whole bytes r.tokens s.found r.lexes s.first)
one_fault path bytes f g (inr (inl s)) (inl r) = absurd (lexed_whole bytes s.tokens r.found s.lexes r.first)
one_fault path bytes f g (inr (inl s)) (inr (inl r)) = pairs_once path bytes f g s r
one_fault path bytes f g (inr (inl s)) (inr (inr r)) = absurd (pairs_apart path bytes f g s r)
one_fault path bytes f g (inr (inr s)) (inl r) = absurd (lexed_whole bytes s.tokens r.found s.lexes r.first)
one_fault path bytes f g (inr (inr s)) (inr (inl r)) = absurd (pairs_apart path bytes g f r s)
one_fault path bytes f g (inr (inr s)) (inr (inr r)) = tree_once path bytes f g s r
