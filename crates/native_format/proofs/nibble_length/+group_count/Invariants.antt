use Rattle.native_format.proofs.nibble_length.+group_count.Given as goal

abbrev pub decreases-group_count : goal.decreases-group_count
decreases-group_count l = l.value
