-- `dinglefork::refusal::dinglefork_refusal` meets its contract.
use mathlib.Core.Path.{◌∙◌}
use Rattle.std.specs.Prelude.{codes, replicate}
use Rattle.machine.specs.Printed.{refusal_text}
use Rattle.dinglefork.proofs.Texts.{IsPut, put_first, put_next, in_parts, then_zeros}
use Rattle.dinglefork.proofs.refusal.dinglefork_refusal.Goals as goal

written : (c : goal.After-put) → IsPut (replicate 128 0) (refusal_text c.args.number) c.put.new.out c.put.result
written c =
    let one = put_first {l = replicate 128 0} {s = codes "refused "} c.put-at.ensures.bytes c.put-at.ensures.end in
    let two = put_next c.as_bytes.result.now one c.put-at-2.ensures.bytes c.put-at-2.ensures.end in
    let three = put_next (codes ": ") two c.put-at-3.ensures.bytes c.put-at-3.ensures.end in
    let four = put_next c.as_bytes-2.result.now three c.put.ensures.bytes c.put.ensures.end in
    in_parts c.args.number c.in-Some.refusal c.in-Some.ensures (c.as_bytes.ensures.value ∙ c.format.ensures.text)
    (c.as_bytes-2.ensures.value ∙ c.sentence.ensures) four

pub returns-clause-text : goal.returns-clause-text
returns-clause-text c = then_zeros c.args.number (written c)

pub returns-clause-len : goal.returns-clause-len
returns-clause-len c = (written c).end
