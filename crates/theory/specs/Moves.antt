-- Sets with one stage more or less, and what linking, dropping a link, holding a stage and passing a stage leave
-- of the links.
use Rattle.std.specs.Prelude.{ℕ, not, ◌&&◌, ◌||◌, ◌==◌}
use Rattle.theory.specs.Loops.{Links, Stages}

-- The set with one stage more.
abbrev pub with_stage : Stages → ℕ → Stages
with_stage S v s = S s || s == v

-- The set with one stage less.
abbrev pub without_stage : Stages → ℕ → Stages
without_stage S v s = S s && not (s == v)

-- The links with one from u to v too.
abbrev pub with_link : Links → ℕ → ℕ → Links
with_link L u v a b = L a b || a == u && b == v

-- The links without the one from u to v.
abbrev pub dropped : Links → ℕ → ℕ → Links
dropped L u v a b = L a b && not (a == u && b == v)

-- Stage v is held: it is removed with its links.
abbrev pub held : Links → ℕ → Links
held L v a b = L a b && not (a == v) && not (b == v)

-- Stage v is passed: each stage before it is linked to each stage after it, and then it is removed with its links.
abbrev pub passed : Links → ℕ → Links
passed L v a b = (L a b || L a v && L v b) && not (a == v) && not (b == v)
