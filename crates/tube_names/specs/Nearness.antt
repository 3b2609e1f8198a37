-- When two places are near, by their distances in x and in y.
use Rattle.std.specs.Prelude.{ℕ, ◌+◌, ◌*◌, Bool, ◌&&◌, nat_le}
use Rattle.tube_names.specs.declared.queries.Norm.{Norm}
use Rattle.tube_names.specs.declared.queries.Norm.TheVariants.{Maximum, Disc}

-- the test of a distance in x and one in y against a radius
abbrev pub is_near : Norm → ℕ → ℕ → ℕ → Bool
is_near Maximum r dx dy = nat_le dx r && nat_le dy r
is_near Disc r dx dy = nat_le (dx * dx + dy * dy) (r * r)
