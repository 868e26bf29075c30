-- What is to be done at a connection, and what may be done.
use Rattle.std.specs.Prelude.{◌≡◌, ℕ, Bool, true, false, not, ◌||◌, ◌&&◌, List, Option, None, Some}
use Rattle.std.specs.List.{list_any}
use Rattle.kn_loop.specs.declared.line.Line.{Line}
use Rattle.kn_loop.specs.Watch.{line_is_settled, line_may_ask, line_may_read, line_may_write}
use Rattle.kn_loop.specs.Calls.{Answers}

-- something is to be done at a connection of which this is known and this is said
abbrev pub is_busy : Option Line → Answers → Bool
is_busy None a = false
is_busy (Some l) a = not (line_is_settled l a.wants a.has_out)

-- something is to be done at one of these
abbrev pub any_busy : List ℕ → (ℕ → Option Line) → (ℕ → Answers) → Bool
any_busy ns lines said = list_any (λ n. is_busy (lines n) (said n)) ns

-- the connection is to be shut now
abbrev pub is_due : Option Line → Answers → Bool
is_due None a = false
is_due (Some l) a = a.shuts && not a.has_out

abbrev pub is_active : Option Line → Answers → Bool
is_active l a = is_busy l a || is_due l a

-- the end of its dial may be asked for; its bytes may be read, and bytes may be written on it, where no such call waits for the port to name it
abbrev pub may_ask : Option Line → Bool
may_ask None = false
may_ask (Some l) = line_may_ask l

abbrev pub may_read : Option Line → Bool
may_read None = false
may_read (Some l) = line_may_read l && not l.read_waits

abbrev pub may_write : Option Line → Bool
may_write None = false
may_write (Some l) = line_may_write l && not l.write_waits

-- bytes are to be read now: they are wanted, and no read waits for the port to name the connection
abbrev pub reads_now : Option Line → Answers → Bool
reads_now None a = false
reads_now (Some l) a = line_may_read l && not l.read_waits && a.wants

-- bytes are to be written now: there are some, and no write waits
abbrev pub writes_now : Option Line → Answers → Bool
writes_now None a = false
writes_now (Some l) a = line_may_write l && not l.write_waits && a.has_out
