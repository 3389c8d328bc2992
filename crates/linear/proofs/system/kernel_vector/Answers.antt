use Rattle.linear.proofs.system.Kernel.{fill_start, kernel_holds, kernel_singular}
use Rattle.linear.proofs.system.kernel_vector.Goals as goal

pub loop-j-init : goal.loop-j-init
loop-j-init c = fill_start c.args.p c.args.n c.args.c c.args.m.now c.requires.bounds.2 c.requires.bounds.3

pub returns-clause-holds : goal.returns-clause-holds
returns-clause-holds c = search kernel_holds

pub returns-clause-singular : goal.returns-clause-singular
returns-clause-singular c = search kernel_singular
