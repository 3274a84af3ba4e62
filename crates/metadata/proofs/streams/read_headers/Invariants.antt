use Rattle.std.proofs.Common.{◌≡◌, ◌≤◌, ◌-◌, ◌++◌, ℕ, List}
use Rattle.metadata.specs.Streams.{StreamHeader, first_cut, headers_from}
use Rattle.metadata.proofs.streams.read_headers.Given as goal

-- what was read and what is left are all
pub record Kept (bytes : List ℕ) (end from count at left : ℕ) (headers : List StreamHeader) : Type 0 where
  pub within : at ≤ end
  pub cut : first_cut bytes end at left ≡ first_cut bytes end from count
  pub whole : headers ++ headers_from bytes end at left ≡ headers_from bytes end from count

abbrev pub invariant-headers : goal.invariant-headers
invariant-headers l = Kept l.bytes l.end l.fn.root.headers_at l.fn.root.stream_count l.at (l.fn.root.stream_count - l._i) l.headers.items
