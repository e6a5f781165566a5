use Rattle.std.proofs.Common.{◌≡◌, Some, None, sym, ◌∙◌, ap, inr}
use Rattle.j2k_base.specs.declared.places.Stop.TheVariants as stops
use Rattle.kotlin_lexer.specs.Lexing.{fault_in}
use Rattle.kotlin_lexer.proofs.Cuts.{reading_once}
use Rattle.kotlin_lexer.proofs.lexing.lex.Goals as goal

pub returns-in-None-clause-only : goal.returns-in-None-clause-only
returns-in-None-clause-only c = λ ts l.
    let r = c.in_ok-read.read in
    (reading_once c.args.bytes.now r.tokens ts r.fault None c.in_ok-read.ensures.reading l).tokens

pub returns-in-None-clause-first : goal.returns-in-None-clause-first
returns-in-None-clause-first c = λ f l.
    let r = c.in_ok-read.read in
    let same = reading_once c.args.bytes.now r.tokens l.0 r.fault (Some f) c.in_ok-read.ensures.reading l.1 in
    let e : None ≡ Some f = sym c.in-None.is ∙ same.fault in cc

pub returns-in_ok-fault_in-in-Some-clause-only : goal.returns-in_ok-fault_in-in-Some-clause-only
returns-in_ok-fault_in-in-Some-clause-only c = λ ts l.
    let r = c.in_ok-read.read in
    let same = reading_once c.args.bytes.now r.tokens ts r.fault None c.in_ok-read.ensures.reading l in
    let e : Some c.in-Some.fault ≡ None = sym c.in-Some.is ∙ same.fault in cc

pub returns-in_ok-fault_in-in-Some-clause-first : goal.returns-in_ok-fault_in-in-Some-clause-first
returns-in_ok-fault_in-in-Some-clause-first c = λ f l.
    let r = c.in_ok-read.read in
    let same = reading_once c.args.bytes.now r.tokens l.0 r.fault (Some f) c.in_ok-read.ensures.reading l.1 in
    let e : Some c.in-Some.fault ≡ Some f = sym c.in-Some.is ∙ same.fault in
    let e' : c.in-Some.fault ≡ f = cc in
    inr (ap (λ g. stops.Fault g) (c.in_ok-fault_in-in-Some.ensures ∙ ap (fault_in c.args.path.now) e'))
