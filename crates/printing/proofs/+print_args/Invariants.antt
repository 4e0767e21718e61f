use Rattle.printing.proofs.+print_args.Given as goal

abbrev pub decreases-print_args : goal.decreases-print_args
decreases-print_args l = l.count
