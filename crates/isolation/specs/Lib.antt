-- Each service keeps a table sound (X-core), and the lines that each partition holds after it are known (X-holds). Its checks are conditions (X-exact):
-- what is done has passed them (X-done), so the table after it is right (X-right). Whole says it of words.
pub mod Ladder
pub mod Ladders
pub mod Pack
pub mod Whole
pub mod Lent
pub mod Laws
