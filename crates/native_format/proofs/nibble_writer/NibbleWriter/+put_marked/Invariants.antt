use Rattle.native_format.proofs.nibble_writer.NibbleWriter.+put_marked.Given as goal

abbrev pub decreases-put_marked : goal.decreases-put_marked
decreases-put_marked l = l.value
