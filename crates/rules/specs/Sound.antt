-- WHAT A SOUND HEAP IS: the model that it shows, its tags, its lists, its figures; and the test that answer 5 goes by.
pub mod Model
pub mod Tags
pub mod Exact
pub mod Sound
pub mod Test
