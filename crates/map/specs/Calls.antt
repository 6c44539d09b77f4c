-- THE MAP'S CALLS (W-201): writing the map of a state, and reading one, each with all that is in the lent room afterwards. 5 before 6; 6 after every 7.
use Rattle.std.specs.Prelude.{List, ◌++◌, ℕ, leb, length, drop}
use Rattle.words.specs.Choice.{pick}
use Rattle.rules.specs.Rules.Calls.{Outcome, says}
use Rattle.rules.specs.Rules.Place.{tile}
use Rattle.rules.specs.Rules.Making.{State}
use Rattle.heap.specs.Seen.{base}
use Rattle.heap.specs.Answer.{sound_at}
use Rattle.map.specs.declared.rows.Row.{Row}
use Rattle.map.specs.Rows.{lines_of, words_of}
use Rattle.map.specs.Layout.{map_of}
use Rattle.map.specs.Reading.{Read, rows, bad}

-- the room with its first places taken by xs
unfoldable pub over : List ℕ → List ℕ → List ℕ
over xs room = xs ++ drop (length xs) room

-- done with n, and xs over the room; 6 where the room is too short
unfoldable pub laid : ℕ → List ℕ → List ℕ → Outcome (List ℕ)
laid n xs room = pick (leb (length xs) (length room)) (says 0 n 0 (over xs room)) (says 6 0 0 room)

-- the rows of a state: its chunks as the headers give them
unfoldable pub rows_of : State → List Row
rows_of s = map_of s.rest.cached 0 (tile (base.word s) (base.count s) 0)

-- WRITING the map of a state with this many cache places into lent bytes
unfoldable pub written : ℕ → State → List ℕ → Outcome (List ℕ)
written places s room = pick (sound_at places s) (laid (length (rows_of s)) (lines_of (rows_of s)) room) (says 5 0 0 room)

-- READING a map into lent words
abbrev pub read_into : Read → List ℕ → Outcome (List ℕ)
read_into (rows rs) room = laid (length rs) (words_of rs) room
read_into (bad k) room = says 7 k 0 room
