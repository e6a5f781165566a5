use Rattle.std.proofs.Common.{ap, ◌∙◌, inr}
use Rattle.j2k_base.specs.declared.places.Stop.TheVariants as stops
use Rattle.java_parser.proofs.Judging.{judged_unit, judged_fault, unit_of, spells, same_unit, no_unit, same_told, within}
use Rattle.java_parser.proofs.parsing.parse.Goals as goal

pub get-requires : goal.get-requires
get-requires c =
    let h = judged_fault c.args.tokens.list c.as_slice.result.now c.in_ok-found.field-0 c.in-Fault.fault c.in-Fault.number c.as_slice.ensures c.in-Fault.is c.in_ok-found.ensures in
    within c.args.tokens.list c.in-Fault.fault c.in-Fault.number h

pub returns-in-Unit-clause-found : goal.returns-in-Unit-clause-found
returns-in-Unit-clause-found c =
    let h = judged_unit c.args.tokens.list c.as_slice.result.now c.in_ok-found.field-0 c.in-Unit.found c.as_slice.ensures c.in-Unit.is c.in_ok-found.ensures in
    spells c.args.tokens c.in-Unit.found h

pub returns-in-Unit-clause-only : goal.returns-in-Unit-clause-only
returns-in-Unit-clause-only c = λ u s.
    let h = judged_unit c.args.tokens.list c.as_slice.result.now c.in_ok-found.field-0 c.in-Unit.found c.as_slice.ensures c.in-Unit.is c.in_ok-found.ensures in
    same_unit c.args.tokens (unit_of c.args.tokens c.in-Unit.found) u (spells c.args.tokens c.in-Unit.found h) s

pub returns-in-Unit-clause-first : goal.returns-in-Unit-clause-first
returns-in-Unit-clause-first c = λ f n token g at.
    let h = judged_unit c.args.tokens.list c.as_slice.result.now c.in_ok-found.field-0 c.in-Unit.found c.as_slice.ensures c.in-Unit.is c.in_ok-found.ensures in
    no_unit c.args.tokens (unit_of c.args.tokens c.in-Unit.found) f n (spells c.args.tokens c.in-Unit.found h) g

pub returns-in_ok-fault_in-in-Fault-clause-only : goal.returns-in_ok-fault_in-in-Fault-clause-only
returns-in_ok-fault_in-in-Fault-clause-only c = λ u s.
    let h = judged_fault c.args.tokens.list c.as_slice.result.now c.in_ok-found.field-0 c.in-Fault.fault c.in-Fault.number c.as_slice.ensures c.in-Fault.is c.in_ok-found.ensures in
    absurd (no_unit c.args.tokens u c.in-Fault.fault c.in-Fault.number s h)

pub returns-in_ok-fault_in-in-Fault-clause-first : goal.returns-in_ok-fault_in-in-Fault-clause-first
returns-in_ok-fault_in-in-Fault-clause-first c = λ f n token g at.
    let h = judged_fault c.args.tokens.list c.as_slice.result.now c.in_ok-found.field-0 c.in-Fault.fault c.in-Fault.number c.as_slice.ensures c.in-Fault.is c.in_ok-found.ensures in
    let e = same_told c.args.tokens c.in-Fault.fault f c.in-Fault.number n c.get.result.now token h g c.get.ensures at in
    inr (ap (λ z. stops.Fault z) (c.in_ok-fault_in-in-Fault.ensures ∙ e))
