use Rattle.std.proofs.Common.{◌≡◌, true, false, sym, ◌∙◌, subst, arith, length-append}
use Rattle.java_characters.specs.Letters.{letters, text_of}
use Rattle.java_lexer.specs.Found.{is_last}
use Rattle.java_lexer.specs.Cutting.{Reading, token_in}
use Rattle.java_lexer.proofs.Cuts.{goes_on, ends, one_token}
use Rattle.java_lexer.proofs.cutting.reading_of.Goals as goal

pub returns-then-is_last-clause-reading : goal.returns-then-is_last-clause-reading
returns-then-is_last-clause-reading c =
    let bytes = c.args.bytes.now in
    let p = c.in_ok-found.found.piece in
    let last : is_last p ≡ true = sym c.is_last.ensures ∙ c.if-is_last.true in
    subst (λ f. Reading bytes c.pieces.tokens c.pieces.comments f) (sym c.fault_of-fault.ensures)
    (ends bytes (letters bytes c.pieces.at) (letters bytes c.in_ok-found.found.next) c.pieces.before c.pieces.tokens c.pieces.comments p c.pieces.invariant.goes_on (sym c.in_ok-found.ensures.value) last)

pub pieces-preserved : goal.pieces-preserved
pieces-preserved c =
    let bytes = c.args.bytes.now in
    let p = c.in_ok-found.found.piece in
    let last : is_last p ≡ false = sym c.is_last.ensures ∙ c.if-is_last.false in
    record {
      at = c.in_ok-found.ensures.next.0;
      few =
          let one = one_token p in
          let before = c.pieces.invariant.few in
          let forward = c.in_ok-found.ensures.forward last in
          simp (c.in_ok-keep.ensures.tokens) (omega (arith, length-append c.pieces.tokens (token_in p), one, before, forward));
      goes_on = λ ps last' rest.
          simp (c.before_next-before.ensures, c.in_ok-keep.ensures.tokens, c.in_ok-keep.ensures.comments)
          (goes_on (text_of bytes) (letters bytes c.pieces.at) (letters bytes c.in_ok-found.found.next) c.pieces.before c.pieces.tokens c.pieces.comments p c.pieces.invariant.goes_on (sym c.in_ok-found.ensures.value) last ps last' rest);
    }
