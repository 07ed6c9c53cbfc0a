-- `machine::step::step` meets its contract.
use Rattle.std.proofs.Common.{rules, refl}
use Rattle.machine.specs.declared.refusal.Refusal.TheVariants.{UnknownCode}
use Rattle.machine.proofs.Laws.Step.{command-unknown}
use Rattle.machine.proofs.step.step.Goals as goal

pub returns-in_default-clause-done : goal.returns-in_default-clause-done
returns-in_default-clause-done g c = command-unknown c.args.c c.args.place _ c.requires {r = UnknownCode} refl (search rules) c.of.ensures
