-- The report of a world: what it shows, as lines of text.
use Rattle.std.specs.Prelude.{ℕ, ◌+◌, ◌/◌, ◌%◌, nat_lt, Bool, true, false, List, [], ◌∷◌, ◌++◌, length, take, if◌then◌else◌, codes}
use Rattle.std.specs.List.{flat_map}
use Rattle.std.specs.Fmt.{decimal}
use Rattle.kn_world.specs.Shown.{Shown, AppShown, DialShown}
use Rattle.kn_world.specs.declared.event.AppPhase.{AppPhase}
use Rattle.kn_world.specs.declared.event.AppPhase.TheVariants as app
use Rattle.kn_world.specs.declared.event.DialPhase.{DialPhase}
use Rattle.kn_world.specs.declared.event.DialPhase.TheVariants as dial

-- ---- words

abbrev pub app_phase_text : AppPhase → List ℕ
app_phase_text app.Dialling = codes "dialling"
app_phase_text app.Open = codes "open"
app_phase_text app.Closing = codes "closing"
app_phase_text app.Lingering = codes "lingering"
app_phase_text app.Refused = codes "refused"
app_phase_text app.Ended = codes "ended"

abbrev pub dial_phase_text : DialPhase → List ℕ
dial_phase_text dial.Asked = codes "asked"
dial_phase_text dial.Dialling = codes "dialling"
dial_phase_text dial.Open = codes "open"
dial_phase_text dial.Lingering = codes "lingering"
dial_phase_text dial.Ended = codes "ended"

abbrev pub answer_text : Bool → List ℕ
answer_text true = codes "yes"
answer_text false = codes "no"

-- a digit of a number in base 16
abbrev pub hex_glyph : ℕ → ℕ
hex_glyph n = if nat_lt n 10 then 48 + n else 87 + n

abbrev pub hex_of_byte : ℕ → List ℕ
hex_of_byte byte = hex_glyph (byte / 16) ∷ hex_glyph (byte % 16) ∷ []

abbrev pub hex_of : List ℕ → List ℕ
hex_of bytes = flat_map hex_of_byte bytes

-- the first sixteen bytes, or a dash where there are none
abbrev pub front_text : List ℕ → List ℕ
front_text [] = codes "-"
front_text (byte ∷ bytes) = hex_of (take 16 (byte ∷ bytes))

abbrev pub error_text : List ℕ → List ℕ
error_text [] = []
error_text (byte ∷ bytes) = codes " error " ++ byte ∷ bytes

-- ---- lines

-- a label and a number
abbrev pub labelled : List ℕ → ℕ → List ℕ
labelled label n = label ++ decimal n

abbrev pub line_end : List ℕ
line_end = 10 ∷ []

unfoldable pub head_line : ℕ → ℕ → ℕ → ℕ → ℕ → List ℕ
head_line agents clients apps dials idle =
    labelled (codes "agents ") agents ++ labelled (codes " clients ") clients ++ labelled (codes " apps ") apps
    ++ labelled (codes " dials ") dials ++ labelled (codes " idle ") idle ++ line_end

-- what a side sent and got
unfoldable pub traffic : List ℕ → List ℕ → List ℕ
traffic sent got = labelled (codes " sent ") (length sent) ++ labelled (codes " got ") (length got) ++ codes " " ++ front_text got

unfoldable pub app_line_of : ℕ → AppPhase → List ℕ → List ℕ → List ℕ → List ℕ
app_line_of number phase sent got error = labelled (codes "app ") number ++ codes " " ++ app_phase_text phase ++ traffic sent got ++ error_text error ++ line_end

unfoldable pub dial_line_of : ℕ → ℕ → ℕ → DialPhase → List ℕ → List ℕ → List ℕ
dial_line_of number link app phase sent got =
    labelled (codes "dial ") number ++ labelled (codes " link ") link ++ labelled (codes " app ") app
    ++ codes " " ++ dial_phase_text phase ++ traffic sent got ++ line_end

abbrev pub app_line : ℕ → AppShown → List ℕ
app_line number shown = app_line_of number shown.phase shown.sent shown.got shown.error

abbrev pub dial_line : ℕ → DialShown → List ℕ
dial_line number shown = dial_line_of number shown.link shown.app shown.phase shown.sent shown.got

unfoldable pub tables_line : ℕ → ℕ → ℕ → ℕ → List ℕ
tables_line awaited held dialling connections =
    labelled (codes "tables awaited ") awaited ++ labelled (codes " held ") held ++ labelled (codes " dials ") dialling
    ++ labelled (codes " connections ") connections ++ line_end

unfoldable pub end_line : Bool → Bool → List ℕ
end_line quiet closed = codes "quiet " ++ answer_text quiet ++ codes " closed " ++ answer_text closed ++ line_end

-- a line for each, numbered from here on
abbrev pub numbered : {A : Type 0} → (ℕ → A → List ℕ) → ℕ → List A → List ℕ
numbered line number [] = []
numbered line number (shown ∷ more) = line number shown ++ numbered line (number + 1) more

-- ---- the report

abbrev pub report_of : Shown → ℕ → List ℕ
report_of world idle =
    head_line world.agents world.clients (length world.apps) (length world.dials) idle
    ++ numbered app_line 1 world.apps
    ++ numbered dial_line 1 world.dials
    ++ tables_line world.awaited world.held world.dialling world.connections
    ++ end_line world.quiet world.closed
