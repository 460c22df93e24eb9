-- How a loop is stated: each kind of loop once, as a function of the numbers below a bound, with the laws that the loop's proof cites.
pub mod Loops
pub mod Laws
