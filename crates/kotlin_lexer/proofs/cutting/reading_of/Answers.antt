use Rattle.std.proofs.Common.{◌≡◌, true, false, List, ◌++◌, reverse, length, sym, ◌∙◌, ap, subst, arith, length-append, Option}
use Rattle.kotlin_tree.specs.declared.tokens.KToken.{KToken}
use Rattle.kotlin_tree.specs.declared.tokens.Gap.{Gap}
use Rattle.kotlin_characters.specs.Letters.{letters, text_of}
use Rattle.kotlin_lexer.specs.declared.found.LexFault.{LexFault}
use Rattle.kotlin_lexer.specs.Found.{is_last}
use Rattle.kotlin_lexer.specs.Nesting.{Open}
use Rattle.kotlin_lexer.specs.Cutting.{Reading, open_next, token_in}
use Rattle.kotlin_lexer.proofs.Cuts.{GoesOn, goes_on, ends, one_token}
use Rattle.kotlin_lexer.proofs.cutting.reading_of.Goals as goal

pub returns-then-last-clause-reading : goal.returns-then-last-clause-reading
returns-then-last-clause-reading c =
    let bytes = c.args.bytes.now in
    let p = c.in_ok-found.found.piece in
    let last : is_last p ≡ true = sym c.is_last-last.ensures ∙ c.if-last.true in
    let read = ends bytes (letters bytes c.pieces.at) (letters bytes c.in_ok-found.found.next) c.pieces.taken.tokens (reverse c.pieces.taken.opened.items) c.pieces.taken.gap p
    c.pieces.invariant.goes_on (sym c.in_ok-found.ensures.value) last in
    let T : List KToken → Type 0 = λ ts. Reading bytes ts c.fault_of-fault.result in
    let F : Option LexFault → Type 0 = λ f. Reading bytes (c.pieces.taken.tokens ++ token_in c.pieces.taken.gap p) f in
    subst T (sym c.in_ok-take.ensures.tokens) (subst F (sym c.fault_of-fault.ensures) read)

pub pieces-preserved : goal.pieces-preserved
pieces-preserved c =
    let bytes = c.args.bytes.now in
    let p = c.in_ok-found.found.piece in
    let ts = c.pieces.taken.tokens in
    let gap = c.pieces.taken.gap in
    let text = text_of bytes in
    let rest = letters bytes c.in_ok-found.found.next in
    let last : is_last p ≡ false = sym c.is_last-last.ensures ∙ c.if-last.false in
    let new = c.take.new.self in
    let more = goes_on text (letters bytes c.pieces.at) rest ts (reverse c.pieces.taken.opened.items) gap p c.pieces.invariant.goes_on (sym c.in_ok-found.ensures.value) last in
    let opened = reverse c.pieces.taken.opened.items in
    let G : Gap → Type 0 = λ g. GoesOn text rest (ts ++ token_in gap p) (open_next opened p) g in
    let O : Open → Type 0 = λ o. GoesOn text rest (ts ++ token_in gap p) o new.gap in
    let T : List KToken → Type 0 = λ us. GoesOn text rest us (reverse new.opened.items) new.gap in
    record {
      at = c.in_ok-found.ensures.next.0;
      few =
          let one = one_token gap p in
          let before = c.pieces.invariant.few in
          let forward = c.in_ok-found.ensures.forward last in
          let long = ap length c.in_ok-take.ensures.tokens ∙ length-append ts (token_in gap p) in
          omega (arith, long, one, before, forward);
      goes_on = subst T (sym c.in_ok-take.ensures.tokens) (subst O (sym c.in_ok-take.ensures.opened) (subst G (sym c.in_ok-take.ensures.gap) more));
    }
