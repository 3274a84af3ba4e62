use Rattle.std.proofs.Common.{ap}
use Rattle.rtr_outside.proofs.NamedLemmas.{bytes_of-written, bytes_of-written_other}
use Rattle.rtr_outside.proofs.mem_files.MemFilesFiles.TheImpl.Goals as goal

pub write-tells : goal.write-tells
write-tells c =
    let files_are = ap (λ m. m.files) c.ensures.after in
    record {
      failed = ap (λ m. m.failed) c.ensures.after;
      not_too_long = c.ensures.not_too_long;
      written = rw files_are (bytes_of-written c.result c.args.self.now.files c.args.name.now c.args.bytes.now);
      others = rw files_are (bytes_of-written_other c.result c.args.self.now.files c.args.name.now c.args.bytes.now);
    }
