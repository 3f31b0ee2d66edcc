use Rattle.assembly_tests.proofs.trees.+balanced.Given as goal

abbrev pub decreases-balanced : goal.decreases-balanced
decreases-balanced l = l.levels
