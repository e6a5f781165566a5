-- A file is read exactly where its tokens spell it, and they spell one file at most.
use Rattle.std.proofs.Common.{◌≡◌, List, [], ◌∷◌, Option, Some, None, refl, ap, sym, ◌∙◌}
use Rattle.grammar.specs.Machine.{◌>>=◌}
use Rattle.grammar.proofs.LawsToCite.{bind_some, some_same}
use Rattle.kotlin_tree.specs.declared.files.KClass.{KClass}
use Rattle.kotlin_grammar.specs.Reading.{Head, class_of, first_of}
use Rattle.kotlin_grammar.specs.Files.{Tokens, apart, begun, pieces, SpellsClasses, Content, SpellsPieces, SpellsFile, classes_of, content_of}
use Rattle.kotlin_grammar.proofs.Pieces.{class_read, class_spelled, head_read, head_spelled}

classes_read : (cs : List KClass) (ps : List Tokens) → SpellsClasses cs ps → classes_of ps ≡ Some cs
unfolding SpellsClasses classes_of
classes_read cs [] h = ap Option.Some (sym h)
classes_read [] ([] ∷ ps) h = classes_read [] ps h
classes_read (c ∷ cs) ([] ∷ ps) h = classes_read (c ∷ cs) ps h
classes_read [] ((t ∷ ts) ∷ ps) h = absurd h
classes_read (c ∷ cs) ((t ∷ ts) ∷ ps) h =
    rw (class_read c (apart (t ∷ ts)) h.0, classes_read cs ps h.1) refl

classes_spelled : (cs : List KClass) (ps : List Tokens) → classes_of ps ≡ Some cs → SpellsClasses cs ps
unfolding SpellsClasses classes_of
classes_spelled cs [] h = sym (some_same h)
classes_spelled [] ([] ∷ ps) h = classes_spelled [] ps h
classes_spelled (c ∷ cs) ([] ∷ ps) h = classes_spelled (c ∷ cs) ps h
classes_spelled [] ((t ∷ ts) ∷ ps) h =
    let a = bind_some (class_of (apart (t ∷ ts))) _ _ h in
    let b = bind_some (classes_of ps) _ _ a.2 in
    absurd (cc b.2)
classes_spelled (c ∷ cs) ((t ∷ ts) ∷ ps) h =
    let a = bind_some (class_of (apart (t ∷ ts))) _ _ h in
    let b = bind_some (classes_of ps) _ _ a.2 in
    let same : a.0 ∷ b.0 ≡ c ∷ cs = some_same b.2 in
    (class_spelled c (apart (t ∷ ts)) (a.1 ∙ ap Option.Some (head_same same)), classes_spelled cs ps (b.1 ∙ ap Option.Some (tail_same same)))
  where
    head_same : {x z : KClass} {xs zs : List KClass} → x ∷ xs ≡ z ∷ zs → x ≡ z
    head_same e = cc e

    tail_same : {x z : KClass} {xs zs : List KClass} → x ∷ xs ≡ z ∷ zs → xs ≡ zs
    tail_same e = cc e

pub pieces_read : (x : Content) (ps : List Tokens) → SpellsPieces x ps → content_of ps ≡ Some x
unfolding SpellsPieces content_of
pieces_read x [] h = absurd h
pieces_read x (p ∷ ps) h = rw (head_read x.head (begun p) h.0, classes_read x.classes ps h.1) refl

pub pieces_spelled : (x : Content) (ps : List Tokens) → content_of ps ≡ Some x → SpellsPieces x ps
unfolding SpellsPieces content_of
pieces_spelled x [] h = absurd (cc h)
pieces_spelled x (p ∷ ps) h =
    let a = bind_some (first_of (begun p)) _ _ h in
    let b = bind_some (classes_of ps) _ _ a.2 in
    let same : record { head = a.0; classes = b.0 } ≡ x = some_same b.2 in
    (head_spelled x.head (begun p) (a.1 ∙ ap (λ (z : Content). Option.Some z.head) same), classes_spelled x.classes ps (b.1 ∙ ap (λ (z : Content). Option.Some z.classes) same))

-- tokens spell one file at most
pub one_file : (x z : Content) (ts : Tokens) → SpellsFile x ts → SpellsFile z ts → x ≡ z
one_file x z ts s r = some_same (sym (pieces_read x (pieces 0 [] ts) s) ∙ pieces_read z (pieces 0 [] ts) r)
