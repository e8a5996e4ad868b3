-- The lines of a workload, and their text. Which they are is our own.
use Rattle.std.specs.Prelude.{ℕ, ◌+◌, ◌-◌, ◌*◌, ◌%◌, ◌==◌, List, [], ◌∷◌, ◌++◌, map, filter, codes, decimal, if◌then◌else◌, length, nat_lt}
use Rattle.std.specs.List.{enumerate_from, flat_map, range_with_len}
use Rattle.row_gen.specs.Draws.{draw}
use Rattle.row_gen.specs.declared.making.Part.{Part}
use Rattle.row_gen.specs.declared.making.Part.TheVariants.{Setup, Lanes}

-- each line with a newline
abbrev pub text_of : List (List ℕ) → List ℕ
text_of lines = flat_map (λ line. line ++ codes "\n") lines

-- ---- setup: a table of people and its rows, and a migration of a column of it

-- the first migration, which makes the table
unfoldable pub create_people : List ℕ
create_people = codes "\\start {\"name\":\"01_people\",\"operations\":[{\"create_table\":{\"name\":\"people\",\"columns\":[{\"name\":\"id\",\"type\":\"bigint\",\"pk\":true},{\"name\":\"name\",\"type\":\"text\"},{\"name\":\"age\",\"type\":\"text\",\"nullable\":true}]}}]}"

-- the second one, which makes ages whole tens
unfoldable pub alter_age : List ℕ
alter_age = codes "\\start {\"name\":\"02_age\",\"operations\":[{\"alter_column\":{\"table\":\"people\",\"column\":\"age\",\"type\":\"bigint\",\"up\":\"CAST(age AS bigint) / 10 * 10\",\"down\":\"CAST(age AS text)\"}}]}"

-- one age in ten is NULL, the others are texts of two digits or of one
abbrev pub age_text : ℕ → List ℕ
age_text d = if d % 10 == 0 then codes "NULL" else codes "'" ++ (decimal (d % 100) ++ codes "'")

-- the row of a key, with one draw for the name and one for the age
unfoldable pub insert_person : ℕ → ℕ → ℕ → List ℕ
insert_person key d e =
    codes "INSERT INTO people (id, name, age) VALUES ("
    ++ (decimal key ++ (codes ", 'u" ++ (decimal (d % 1000) ++ (codes "', " ++ (age_text e ++ codes ");")))))

-- Each row takes two draws, in the order of the keys.
abbrev pub person : ℕ → ℕ → List ℕ
person number key = insert_person key (draw number (2 * key - 1)) (draw number (2 * key))

abbrev pub setup_lines : ℕ → ℕ → List (List ℕ)
setup_lines number rows =
    create_people ∷ codes "\\complete" ∷ codes "SET search_path TO public_01_people;"
    ∷ (map (person number) (range_with_len 1 rows) ++ alter_age ∷ [])

-- ---- lanes: statements on these rows, through both versions, while the second migration is filled

-- the version that a lane goes through: the old one for even lanes, the new one for odd ones
abbrev pub version_of : ℕ → List ℕ
version_of lane = if lane % 2 == 0 then codes "public_01_people" else codes "public_02_age"

unfoldable pub lane_head : ℕ → List ℕ
lane_head lane = codes "lane l" ++ (decimal lane ++ (codes " " ++ version_of lane))

-- the keys of a lane, ascending: those that leave its number when divided by the number of lanes
abbrev pub keys_of : ℕ → ℕ → ℕ → List ℕ
keys_of rows lanes lane = filter (λ key. key % lanes == lane) (range_with_len 1 rows)

-- how many keys the lanes before this one have
abbrev pub keys_before : ℕ → ℕ → ℕ → ℕ
keys_before rows lanes lane = length (filter (λ key. nat_lt (key % lanes) lane) (range_with_len 1 rows))

-- The statement on a key that a draw gives. A new row has a key behind those of the setup.
unfoldable pub statement : ℕ → ℕ → ℕ → List ℕ
statement rows key d =
    if d % 4 == 0 then codes "UPDATE people SET name = 'v" ++ (decimal (d % 1000) ++ (codes "' WHERE id = " ++ (decimal key ++ codes ";")))
    else (if d % 4 == 1 then codes "SELECT id, name FROM people WHERE id = " ++ (decimal key ++ codes ";")
    else (if d % 4 == 2 then codes "DELETE FROM people WHERE id = " ++ (decimal key ++ codes ";")
    else codes "INSERT INTO people (id, name) VALUES (" ++ (decimal (rows + key) ++ (codes ", 'v" ++ (decimal (d % 1000) ++ codes "');")))))

-- Each key takes one draw: those of the first lane in their order, then those of the next lane, and so on.
abbrev pub lane_lines : ℕ → ℕ → ℕ → ℕ → List (List ℕ)
lane_lines number rows lanes lane =
    lane_head lane
    ∷ map (λ (place, key). statement rows key (draw number place))
    (enumerate_from (keys_before rows lanes lane + 1) (keys_of rows lanes lane))

abbrev pub lanes_lines : ℕ → ℕ → ℕ → List (List ℕ)
lanes_lines number rows lanes =
    flat_map (lane_lines number rows lanes) (range_with_len 0 lanes) ++ codes "control" ∷ codes "\\fill" ∷ []

-- ---- the whole

abbrev pub lines_of : Part → ℕ → ℕ → ℕ → List (List ℕ)
lines_of Setup number rows lanes = setup_lines number rows
lines_of Lanes number rows lanes = lanes_lines number rows lanes
