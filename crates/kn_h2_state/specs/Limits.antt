-- The numbers of a connection, each in one place.
use Rattle.std.specs.Prelude.{ℕ}

-- the receiving window of a stream: what its peer may send before text of it is taken
abbrev pub stream_window : ℕ
stream_window = 65535

-- the receiving window of a connection
abbrev pub connection_window : ℕ
connection_window = 6553500

-- each window before a frame changes it (RFC 9113, section 6.9.2)
abbrev pub default_window : ℕ
default_window = 65535

-- no window is larger (section 6.9.1)
abbrev pub largest_window : ℕ
largest_window = 2147483647

-- the longest payload of a frame (section 4.2)
abbrev pub frame_limit : ℕ
frame_limit = 16384

-- from so many owed bytes on, they are granted back
abbrev pub grant_size : ℕ
grant_size = 16384

-- while so many bytes wait for the socket, nothing that may wait is written
abbrev pub full_out : ℕ
full_out = 16384

-- the most bytes of reply frames that wait for the socket
abbrev pub reply_limit : ℕ
reply_limit = 65536

-- the longest header block that is read
abbrev pub block_limit : ℕ
block_limit = 32768

-- the largest list of fields that is read, as SETTINGS_MAX_HEADER_LIST_SIZE counts it (section 6.5.2)
abbrev pub list_limit : ℕ
list_limit = 16384

-- the most streams that a peer may have open
abbrev pub stream_limit : ℕ
stream_limit = 100

-- while a stream's queue holds more bytes, it takes no further ones
abbrev pub queue_limit : ℕ
queue_limit = 5242880

-- the highest number of a stream (section 5.1.1)
abbrev pub highest_stream : ℕ
highest_stream = 2147483647
