use Rattle.std.proofs.Common.{◌≡◌, ◌+◌, ◌-◌, ℕ, take, drop, ap, sym, arith}
use Rattle.pe_image.specs.Raw.{raw_of}
use Rattle.pe_image.proofs.section.PeSection.raw_bytes.Goals as goal

pub returns-then-self-eq0-clause-value : goal.returns-then-self-eq0-clause-value
unfolding raw_of
returns-then-self-eq0-clause-value c =
    let s = c.args.self.now in
    sym (ap (λ (t : ℕ). take t (drop s.raw_at c.args.bytes.now)) c.if-self-eq0.true)

pub returns-clause-value : goal.returns-clause-value
unfolding raw_of
returns-clause-value c =
    let s = c.args.self.now in
    let size : s.raw_at + s.raw_size - s.raw_at ≡ s.raw_size = omega arith in
    ap (λ (t : ℕ). take t (drop s.raw_at c.args.bytes.now)) size
