-- The programs that use the network, by their names.
use Rattle.std.specs.Prelude.{ℕ, Bool, List, [], ◌∷◌, Option, Some, None, is_some, codes, bytes_eq, if◌then◌else◌}
use Rattle.kn_options.specs.declared.program.Program.{Program}
use Rattle.kn_options.specs.declared.program.Program.TheVariants.{Server, Agent, Client}

-- the program of this name
abbrev pub program_named : List ℕ → Option Program
program_named word =
    if bytes_eq word (codes "server") then Some Server
    else (if bytes_eq word (codes "agent") then Some Agent
    else (if bytes_eq word (codes "client") then Some Client else None))

-- the program that the first word names
abbrev pub program_of : List (List ℕ) → Option Program
program_of [] = None
program_of (first ∷ rest) = program_named first

abbrev pub is_net : List (List ℕ) → Bool
is_net words = is_some (program_of words)
