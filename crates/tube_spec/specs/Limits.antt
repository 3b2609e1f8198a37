-- The limits of everything. Each stands here once, and clauses and definitions name it; the code has a constant of the same name.
use Rattle.std.specs.Prelude.{ℕ}

-- the greatest last tick of a clock, width of a slice and gap of a query, in ticks
abbrev pub most_ticks : ℕ
most_ticks = 100000

-- the greatest absolute value that a cell may hold, in the unit of its signal or variable (millimetres, ticks)
abbrev pub greatest_bound : ℕ
greatest_bound = 500000000

-- the greatest radius of a distance and of a query, in millimetres
abbrev pub greatest_radius : ℕ
greatest_radius = 2000000000

-- the greatest absolute value of a member of an interval: products and squares of what cells hold may come near it
abbrev pub interval_bound : ℕ
interval_bound = 4000000000000000000

-- how many cells a store may have
abbrev pub most_cells : ℕ
most_cells = 2000000

-- how many runs the possible pairs of a query may have
abbrev pub most_runs : ℕ
most_runs = 2000000

-- how many cells the contractors of a network may read, those of each added up
abbrev pub most_reads : ℕ
most_reads = 20000000

-- how many signals a mission may declare
abbrev pub most_signals : ℕ
most_signals = 64

-- how many variables the records of a mission may make
abbrev pub most_variables : ℕ
most_variables = 200000

-- how many queries a mission may ask
abbrev pub most_queries : ℕ
most_queries = 16

-- the greatest last tick of a clock on which queries are asked, in ticks
abbrev pub most_plane_ticks : ℕ
most_plane_ticks = 20000

-- how many records a log may have, notes among them
abbrev pub most_records : ℕ
most_records = 1000000

-- how long a log may be, in bytes
abbrev pub most_bytes : ℕ
most_bytes = 67108864

-- how far the last tick of a range may lie above the first, in ticks, where a record asks for each of them
abbrev pub widest_range : ℕ
widest_range = 2000

-- how many nodes a formula may have
abbrev pub most_nodes : ℕ
most_nodes = 256

-- how deep the tree of a formula may be, and how many brackets may be open at a time
abbrev pub greatest_depth : ℕ
greatest_depth = 32
