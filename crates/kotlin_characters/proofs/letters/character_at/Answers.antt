use Rattle.std.proofs.Common.{IfSome, length, encode_utf8, ◌+◌, ◌≤◌, arith, sym, ◌∙◌, ap, subst}
use Rattle.kotlin_characters.proofs.Steps.{found, by_front, sub_stands, nothing_stands, is_scalar, made, room}
use Rattle.kotlin_characters.proofs.letters.character_at.Goals as goal

pub returns-then-offset-bytes-clause-value : goal.returns-then-offset-bytes-clause-value
returns-then-offset-bytes-clause-value c = nothing_stands c.args.bytes.now c.args.at.position.offset (omega arith)

pub returns-then-bytes-offset-eq26-clause-value : goal.returns-then-bytes-offset-eq26-clause-value
returns-then-bytes-offset-eq26-clause-value c = sub_stands c.args.bytes.now c.args.at.position.offset (omega arith) c.if-bytes-offset-eq26.true

pub returns-in-Letter-clause-value : goal.returns-in-Letter-clause-value
returns-in-Letter-clause-value c =
    let bytes = c.args.bytes.now in
    let o = c.args.at.position.offset in
    let e = by_front bytes o c.without_escapes.result c.front_at.result c.without_escapes.ensures.offset c.without_escapes.ensures.odd (omega arith) c.if-bytes-offset-eq26.false c.front_at.ensures.value in
    let f = ap found (sym c.in-Letter.is) ∙ e in
    made c.from_u32.result c.in-Letter.code c.from_u32.ensures.value (is_scalar bytes o c.in-Letter.code f) ∙ f

pub returns-in-Letter-clause-room : goal.returns-in-Letter-clause-room
returns-in-Letter-clause-room c =
    let bytes = c.args.bytes.now in
    let o = c.args.at.position.offset in
    let e = by_front bytes o c.without_escapes.result c.front_at.result c.without_escapes.ensures.offset c.without_escapes.ensures.odd (omega arith) c.if-bytes-offset-eq26.false c.front_at.ensures.value in
    let f = ap found (sym c.in-Letter.is) ∙ e in
    let same = made c.from_u32.result c.in-Letter.code c.from_u32.ensures.value (is_scalar bytes o c.in-Letter.code f) in
    subst (λ x. IfSome x (λ d. o + length (encode_utf8 d) ≤ length bytes)) (sym same) (room bytes o c.in-Letter.code (omega arith) f)

pub returns-in-Stop-clause-value : goal.returns-in-Stop-clause-value
returns-in-Stop-clause-value c =
    let e = by_front c.args.bytes.now c.args.at.position.offset c.without_escapes.result c.front_at.result c.without_escapes.ensures.offset c.without_escapes.ensures.odd (omega arith) c.if-bytes-offset-eq26.false c.front_at.ensures.value in
    ap found (sym c.in-Stop.is) ∙ e
