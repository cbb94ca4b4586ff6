-- Going over the bits of a mask, the lowest first. Assumes nothing.
use Rattle.std.specs.Prelude.{ℕ, ◌≡◌, Option, MatchOption}
use Rattle.value.specs.declared.Bits.{Bits}
use Rattle.value.specs.Mask.{LowestOf}

-- A step gives the lowest bit and leaves the others, or nothing where none is left.
abbrev pub LowestFirst : Bits → Option ℕ → Bits → Type 0
LowestFirst s r t = MatchOption r ((s.rest ≡ 0) × (t.rest ≡ 0)) (λ v. LowestOf s.rest v t.rest)
